-- `list::list` meets its contract.
use mathlib.Core.Path.{◌≡◌, sym, ap, subst, ◌∙◌}
use mathlib.Core.List.{List}
use Prim.Native.Nat.{ℕ, ◌+◌, ◌≤◌}
use native.Mathlib.Omega.{arith}
use lib.Dec.{T}
use lib.ListN.{length, length-append}
use lib.Pow.{are_bytes}
use mathlib.Core.Bool.{not}
use Rattle.basics.proofs.ListsLaws.{bytes-all}
use Rattle.records.specs.declared.State.{State}
use Rattle.records.specs.declared.State.TheVariants.{Unformatted, Failed, Active}
use Rattle.records.specs.Logs.{records_of}
use Rattle.scan.specs.declared.Opened.{Opened}
use Rattle.text.specs.Text.{Puts}
use Rattle.text.proofs.TextPutting.{Begun, begun, put-none, room-left, next, last}
use Rattle.list.specs.Listing.{active_line, record_lines, state_listing, bad_image, longest, listing_in}
use Rattle.list.proofs.ListingBounds.{Fits, opened-fits}
use Rattle.list.proofs.ListingCases.{too_short, no_image, in_state}
use Rattle.list.proofs.list.Goals as goal

pub returns-then-out-lt-LONGEST : goal.returns-then-out-lt-LONGEST
returns-then-out-lt-LONGEST c =
    let out = c.args.out.now in
    subst (λ (t : List ℕ). Puts out 0 t out 0) (sym (too_short (length out) c.args.image.now c.if-out-lt-LONGEST.true)) (put-none out 0)

pub returns-then-is_err : goal.returns-then-is_err
returns-then-is_err c =
    let listed : List ℕ = listing_in (length c.args.out.now) c.args.image.now in
    let holds : (text : List ℕ) → (after : List ℕ) → (r : ℕ) → listed ≡ text → Puts c.args.out.now 0 text after r
    → Puts c.args.out.now 0 listed after r = λ text after r e p. subst (λ (t : List ℕ). Puts c.args.out.now 0 t after r) (sym e) p in
    let refused = c.is_err.ensures.negation ∙ ap not c.if-is_err.true in
    holds bad_image c.put_bytes.new.out c.put_bytes.result
    (no_image (length c.args.out.now) c.args.image.now c.open-o.result c.if-out-lt-LONGEST.false c.open-o.ensures refused)
    c.put_bytes.ensures

pub put_active-n-requires : goal.put_active-n-requires
put_active-n-requires c =
    let fits : Fits c.open-o.result.log = let image = c.args.image.now in
    let bytes : T (are_bytes image) = bytes-all image (λ i. omega (arith, c.type_inv.image i)) in
    subst (λ (o : Opened). Fits o.log) (sym c.open-o.ensures) (opened-fits image bytes) in
    let active : State = Active c.in-Active.sector c.in-Active.seq c.in-Active.head in
    let room : let o = c in 0 + length (state_listing o.open-o.result.log active) ≤ length o.args.out.now = let log = c.open-o.result.log in
    omega (arith, c.if-out-lt-LONGEST.false, subst (λ (s : State). length (state_listing log s) ≤ longest) c.in-Active.is fits.short) in
    let log = c.open-o.result.log in
    omega (
      arith,
      room,
      length-append (active_line c.in-Active.sector c.in-Active.seq c.in-Active.head log.count)
          (record_lines (records_of log)),
    )

pub put_records-requires : goal.put_records-requires
put_records-requires c =
    let fits : Fits c.open-o.result.log = let image = c.args.image.now in
    let bytes : T (are_bytes image) = bytes-all image (λ i. omega (arith, c.type_inv.image i)) in
    subst (λ (o : Opened). Fits o.log) (sym c.open-o.ensures) (opened-fits image bytes) in
    let active : State = Active c.in-Active.sector c.in-Active.seq c.in-Active.head in
    let room : let o = c in 0 + length (state_listing o.open-o.result.log active) ≤ length o.args.out.now = let o = c in
    let log = o.open-o.result.log in
    omega (arith, o.if-out-lt-LONGEST.false, subst (λ (s : State). length (state_listing log s) ≤ longest) c.in-Active.is fits.short) in
    let stands : let s = c in let o =
    s in Begun o.args.out.now 0 (state_listing o.open-o.result.log active) (record_lines (records_of o.open-o.result.log)) c.put_active-n.new.out
    c.put_active-n.result = let s = c in next room (begun room) c.put_active-n.ensures in
    (fits.few, room-left room stands)

pub returns-in-Unformatted : goal.returns-in-Unformatted
returns-in-Unformatted c =
    let listed : List ℕ = listing_in (length c.args.out.now) c.args.image.now in
    let holds : (text : List ℕ) → (after : List ℕ) → (r : ℕ) → listed ≡ text → Puts c.args.out.now 0 text after r
    → Puts c.args.out.now 0 listed after r = λ text after r e p. subst (λ (t : List ℕ). Puts c.args.out.now 0 t after r) (sym e) p in
    let state_says : (state : State) → let o =
    c in o.open-o.result.log.state ≡ state → listed
    ≡ state_listing o.open-o.result.log state = λ state e. in_state (length c.args.out.now) c.args.image.now c.open-o.result c.if-out-lt-LONGEST.false
    c.open-o.ensures
    (c.is_err.ensures.negation ∙ ap not c.if-is_err.false) state e in
    holds _ c.put_bytes-in-Unformatted.new.out c.put_bytes-in-Unformatted.result
    (state_says Unformatted c.in-Unformatted.is) c.put_bytes-in-Unformatted.ensures

pub returns-in-Failed : goal.returns-in-Failed
returns-in-Failed c =
    let listed : List ℕ = listing_in (length c.args.out.now) c.args.image.now in
    let holds : (text : List ℕ) → (after : List ℕ) → (r : ℕ) → listed ≡ text → Puts c.args.out.now 0 text after r
    → Puts c.args.out.now 0 listed after r = λ text after r e p. subst (λ (t : List ℕ). Puts c.args.out.now 0 t after r) (sym e) p in
    let state_says : (state : State) → let o =
    c in o.open-o.result.log.state ≡ state → listed
    ≡ state_listing o.open-o.result.log state = λ state e. in_state (length c.args.out.now) c.args.image.now c.open-o.result c.if-out-lt-LONGEST.false
    c.open-o.ensures
    (c.is_err.ensures.negation ∙ ap not c.if-is_err.false) state e in
    holds _ c.put_bytes-in-Failed.new.out c.put_bytes-in-Failed.result
    (state_says Failed c.in-Failed.is) c.put_bytes-in-Failed.ensures

pub returns-in-Active : goal.returns-in-Active
returns-in-Active c =
    let listed : List ℕ = listing_in (length c.args.out.now) c.args.image.now in
    let holds : (text : List ℕ) → (after : List ℕ) → (r : ℕ) → listed ≡ text → Puts c.args.out.now 0 text after r
    → Puts c.args.out.now 0 listed after r = λ text after r e p. subst (λ (t : List ℕ). Puts c.args.out.now 0 t after r) (sym e) p in
    let fits : Fits c.open-o.result.log = let image = c.args.image.now in
    let bytes : T (are_bytes image) = bytes-all image (λ i. omega (arith, c.type_inv.image i)) in
    subst (λ (o : Opened). Fits o.log) (sym c.open-o.ensures) (opened-fits image bytes) in
    let state_says : (state : State) → let o =
    c in o.open-o.result.log.state ≡ state → listed ≡ state_listing o.open-o.result.log state = λ state e. let o = c in
    in_state (length o.args.out.now) o.args.image.now o.open-o.result o.if-out-lt-LONGEST.false o.open-o.ensures
    (c.is_err.ensures.negation ∙ ap not c.if-is_err.false) state e in
    let active : State = Active c.in-Active.sector c.in-Active.seq c.in-Active.head in
    let room : let o = c in 0 + length (state_listing o.open-o.result.log active) ≤ length o.args.out.now = let o = c in
    let log = o.open-o.result.log in
    omega (arith, o.if-out-lt-LONGEST.false, subst (λ (s : State). length (state_listing log s) ≤ longest) c.in-Active.is fits.short) in
    let stands : let s = c in let o =
    s in Begun o.args.out.now 0 (state_listing o.open-o.result.log active) (record_lines (records_of o.open-o.result.log)) c.put_active-n.new.out
    c.put_active-n.result = let s = c in next room (begun room) c.put_active-n.ensures in
    holds _ c.put_records.new.out c.put_records.result
    (state_says active c.in-Active.is) (last room stands c.put_records.ensures)
