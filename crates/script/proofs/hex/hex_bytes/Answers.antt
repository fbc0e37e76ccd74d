-- `script::hex::hex_bytes` meets its contract.
use mathlib.Core.Path.{◌≡◌, sym, subst}
use mathlib.Core.List.{List}
use Prim.Native.Nat.{ℕ}
use native.Mathlib.Omega.{arith}
use lib.ListN.{length}
use Rattle.text.specs.Text.{Puts}
use Rattle.text.proofs.TextPutting.{Begun, begun, next, ended, put-none, put_one}
use Rattle.script.specs.Hex.{bytes_in}
use Rattle.script.proofs.HexPairs.{byte_within, fill_none, fill_more, fill-full, fill-room}
use Rattle.script.proofs.hex.hex_bytes.Goals as goal

pub returns-then-out-to : goal.returns-then-out-to
returns-then-out-to c =
    let s = c.args in
    let out = s.out.now in
    subst (λ (t : List ℕ). Puts out s.to t out s.to) (sym (fill-full s.text.now s.at s.to (length out) (omega arith)))
    (put-none out s.to)

pub loop-k-init : goal.loop-k-init
loop-k-init c = let s = c.args in begun (fill-room s.text.now s.at s.to (length s.out.now) (omega arith))

pub returns-in_default : goal.returns-in_default
returns-in_default c =
    let s = c.args in
    let l = c.loop-k in
    let size = length s.out.now in
    let Left : List ℕ → Type 0 = λ rest. Begun s.out.now s.to (bytes_in s.at s.text.now s.to size) rest l.out l.k in
    ended (fill-room s.text.now s.at s.to size (omega arith))
    (subst Left (fill_none s.text.now l.from l.k size (sym c.in_default.ensures)) l.invariant)

pub overflow_add-from : goal.overflow_add-from
overflow_add-from c =
    omega (arith, byte_within c.loop-k.from c.args.text.now _ (sym c.in-Some.ensures))

pub loop-k-preserved : goal.loop-k-preserved
loop-k-preserved c =
    let s = c.args in
    let l = c.loop-k in
    let size = length s.out.now in
    let Left : List ℕ → Type 0 = λ rest. Begun s.out.now s.to (bytes_in s.at s.text.now s.to size) rest l.out l.k in
    let here = subst Left (fill_more s.text.now l.from l.k size _ (omega arith) (sym c.in-Some.ensures)) l.invariant in
    next (fill-room s.text.now s.at s.to size (omega arith)) here (put_one l.out l.k _ (omega arith))

pub returns : goal.returns
returns c =
    let s = c.args in
    let l = c.loop-k in
    let size = length s.out.now in
    let Left : List ℕ → Type 0 = λ rest. Begun s.out.now s.to (bytes_in s.at s.text.now s.to size) rest l.out l.k in
    let whole =
    ended (fill-room s.text.now s.at s.to size (omega arith))
    (subst Left (fill-full s.text.now l.from l.k size (omega arith)) l.invariant) in
    let end : l.k ≡ length l.out = omega arith in
    subst (λ (r : ℕ). Puts s.out.now s.to (bytes_in s.at s.text.now s.to size) l.out r) end whole
