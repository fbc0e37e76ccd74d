-- `list::put_active` meets its contract: the word and four numbers, one behind the other.
use mathlib.Core.List.{List, [], ◌∷◌}
use Prim.Native.Nat.{ℕ, ◌+◌, ◌≤◌}
use native.Mathlib.Omega.{arith}
use lib.ListN.{length}
use Rattle.text.proofs.TextPutting.{Begun, begun, room-left, piece_fits, next, last}
use Rattle.list.specs.Listing.{number, line, active_line}
use Rattle.list.proofs.put_active.Goals as goal

pub put_number-b-requires : goal.put_number-b-requires
unfolding line
put_number-b-requires c =
    let whole : List ℕ = active_line c.args.sector c.args.seq c.args.head c.args.count in
    let room : 0 + length whole ≤ length c.args.out.now = omega (arith, c.requires) in
    let rest : List ℕ → List ℕ → ℕ → Type 0 = λ left out at. Begun c.args.out.now 0 whole left out at in
    let word : rest (line c.args.sector (c.args.seq ∷ c.args.head ∷ c.args.count ∷ [])) c.put_bytes-a.new.out c.put_bytes-a.result =
    next room (begun room) c.put_bytes-a.ensures in
    let a = c.args in
    piece_fits room (number a.sector 32) (line a.seq (a.head ∷ a.count ∷ [])) word

pub put_number-c-requires : goal.put_number-c-requires
unfolding line
put_number-c-requires c =
    let whole : List ℕ = active_line c.args.sector c.args.seq c.args.head c.args.count in
    let room : 0 + length whole ≤ length c.args.out.now = omega (arith, c.requires) in
    let rest : List ℕ → List ℕ → ℕ → Type 0 = λ left out at. Begun c.args.out.now 0 whole left out at in
    let word : let s = c in rest (line s.args.sector (s.args.seq ∷ s.args.head ∷ s.args.count ∷ [])) c.put_bytes-a.new.out c.put_bytes-a.result =
    next room (begun room) c.put_bytes-a.ensures in
    let sector : let s = c in rest (line s.args.seq (s.args.head ∷ s.args.count ∷ [])) c.put_number-b.new.out c.put_number-b.result =
    next room word c.put_number-b.ensures in
    piece_fits room (number c.args.seq 32) (line c.args.head (c.args.count ∷ [])) sector

pub put_number-d-requires : goal.put_number-d-requires
unfolding line
put_number-d-requires c =
    let whole : List ℕ = active_line c.args.sector c.args.seq c.args.head c.args.count in
    let room : 0 + length whole ≤ length c.args.out.now = omega (arith, c.requires) in
    let rest : List ℕ → List ℕ → ℕ → Type 0 = λ left out at. Begun c.args.out.now 0 whole left out at in
    let word : let s = c in rest (line s.args.sector (s.args.seq ∷ s.args.head ∷ s.args.count ∷ [])) c.put_bytes-a.new.out c.put_bytes-a.result =
    next room (begun room) c.put_bytes-a.ensures in
    let sector : let s = c in rest (line s.args.seq (s.args.head ∷ s.args.count ∷ [])) c.put_number-b.new.out c.put_number-b.result =
    next room word c.put_number-b.ensures in
    let seq : let s = c in rest (line s.args.head (s.args.count ∷ [])) c.put_number-c.new.out c.put_number-c.result = next room sector c.put_number-c.ensures in
    let s = c in
    piece_fits room (number s.args.head 32) (line s.args.count []) seq

pub put_number-requires : goal.put_number-requires
unfolding line
put_number-requires c =
    let whole : List ℕ = active_line c.args.sector c.args.seq c.args.head c.args.count in
    let room : 0 + length whole ≤ length c.args.out.now = omega (arith, c.requires) in
    let rest : List ℕ → List ℕ → ℕ → Type 0 = λ left out at. Begun c.args.out.now 0 whole left out at in
    let word : let s = c in rest (line s.args.sector (s.args.seq ∷ s.args.head ∷ s.args.count ∷ [])) c.put_bytes-a.new.out c.put_bytes-a.result =
    next room (begun room) c.put_bytes-a.ensures in
    let sector : let s = c in rest (line s.args.seq (s.args.head ∷ s.args.count ∷ [])) c.put_number-b.new.out c.put_number-b.result =
    next room word c.put_number-b.ensures in
    let seq : let s = c in rest (line s.args.head (s.args.count ∷ [])) c.put_number-c.new.out c.put_number-c.result = next room sector c.put_number-c.ensures in
    let head : let s = (((c))) in rest (line s.args.count []) c.put_number-d.new.out c.put_number-d.result = next room seq c.put_number-d.ensures in
    room-left room head

pub returns : goal.returns
unfolding line
returns c =
    let whole : List ℕ = active_line c.args.sector c.args.seq c.args.head c.args.count in
    let room : 0 + length whole ≤ length c.args.out.now = omega (arith, c.requires) in
    let rest : List ℕ → List ℕ → ℕ → Type 0 = λ left out at. Begun c.args.out.now 0 whole left out at in
    let word : let s = c in rest (line s.args.sector (s.args.seq ∷ s.args.head ∷ s.args.count ∷ [])) c.put_bytes-a.new.out c.put_bytes-a.result =
    next room (begun room) c.put_bytes-a.ensures in
    let sector : let s = c in rest (line s.args.seq (s.args.head ∷ s.args.count ∷ [])) c.put_number-b.new.out c.put_number-b.result =
    next room word c.put_number-b.ensures in
    let seq : let s = c in rest (line s.args.head (s.args.count ∷ [])) c.put_number-c.new.out c.put_number-c.result = next room sector c.put_number-c.ensures in
    let head : let s = (((c))) in rest (line s.args.count []) c.put_number-d.new.out c.put_number-d.result = next room seq c.put_number-d.ensures in
    last room head c.put_number.ensures
