-- One pass over the slots of a sector: what the arrays stand for on the way, and what each kind of slot makes of them.
use Rattle.std.specs.Prelude.{Option, Some, None}
use mathlib.Core.Path.{◌≡◌, refl, sym, ap, ap₂, ◌∙◌}
use mathlib.Core.Bool.{Bool, true, false, ◌||◌}
use mathlib.Core.List.{List, [], ◌∷◌, ◌++◌, map}
use Prim.Native.Nat.{ℕ, zero, suc, ◌+◌, ◌-◌, ◌≤◌, ◌<◌}
use native.Mathlib.Omega.{arith}
use lib.Dec.{eqb, ltb}
use lib.ListN.{length, get_or, set, take, length-append, length-set}
use lib.Seq.{map-set_same}
use borrow.Author.Tests.{lt-ltb, le-ltb, eqb-true}
use Rattle.basics.specs.Choice.{pick}
use Rattle.basics.specs.Lists.{all_are}
use Rattle.basics.proofs.ChoiceLaws.{first, second}
use Rattle.codec.specs.declared.Raw.{Raw}
use Rattle.codec.specs.Slots.{decoded}
use Rattle.codec.proofs.SlotsLaws.{erased-none}
use Rattle.records.specs.Table.{limit, place_of, key_place, holds, has_key, has_room, falls, absorbed}
use Rattle.records.specs.Logs.{places}
use Rattle.records.proofs.TableFinding.{key-place, place-most, place-holds, place_key}
use Rattle.records.proofs.TableJoining.{nowhere, join_held, absorb_join, absorb_kept, absorb_new}
use Rattle.records.proofs.LogsPlaces.{places-set, places-add, beside-stored}
use Rattle.scan.specs.Reading.{Read, too_many, these, with_record, with_slot, read_from, head_from, records_in, head_in}

-- ---- the folds, k slots passed
module _ (seq : ℕ) (slots : ℕ → List ℕ) where
  -- more keys than a log can hold stay too many
  pub read-full : (n k : ℕ) → read_from n k seq slots too_many ≡ too_many
  unfolding read_from
  read-full zero k = refl
  read-full (suc n) k = read-full n (suc k)

  pub read_end : (k : ℕ) (read : Read) → 256 ≤ k → read_from (256 - k) k seq slots read ≡ read
  unfolding read_from
  read_end k read h = let e : 256 - k ≡ 0 = omega arith in rw e

  pub read_step : (k : ℕ) (read : Read) → k < 256
      → read_from (256 - k) k seq slots read ≡ read_from (256 - (k + 1)) (k + 1) seq slots (with_slot seq (slots k) read)
  unfolding read_from
  read_step k read h =
      let e : 256 - k ≡ suc (256 - (k + 1)) = omega arith in
      let f : k + 1 ≡ suc k = omega arith in
      ap (λ (m : ℕ). read_from m k seq slots read) e ∙ ap (λ (x : ℕ). read_from (256 - (k + 1)) x seq slots (with_slot seq (slots k) read)) (sym f)

  pub head_end : (k head : ℕ) → 256 ≤ k → head_from (256 - k) k slots head ≡ head
  unfolding head_from
  head_end k head h = let e : 256 - k ≡ 0 = omega arith in rw e

  pub head_step : (k head : ℕ) → k < 256
      → head_from (256 - k) k slots head ≡ head_from (256 - (k + 1)) (k + 1) slots (pick (all_are 0xFF (slots k)) head (k + 1))
  unfolding head_from
  head_step k head h =
      let e : 256 - k ≡ suc (256 - (k + 1)) = omega arith in
      let f : k + 1 ≡ suc k = omega arith in
      ap (λ (m : ℕ). head_from m k slots head) e ∙ ap (λ (x : ℕ). head_from (256 - (k + 1)) x slots (pick (all_are 0xFF (slots k)) head x)) (sym f)

  -- ---- what the loop holds
  pub record Scanning (table : List Raw) (tags ids : List ℕ) (count head k : ℕ) : Type 0 where
    pub found : List Raw
    pub size : length found ≡ count
    pub most : count ≤ limit
    pub standing : table ≡ places found
    pub tags_long : length tags ≡ limit
    pub ids_long : length ids ≡ limit
    pub tags_are : take count tags ≡ map (λ (r : Raw). r.tag) found
    pub ids_are : take count ids ≡ map (λ (r : Raw). r.id) found
    pub low : 1 ≤ k
    pub high : k ≤ 256
    pub rest : read_from (256 - k) k seq slots (these found) ≡ records_in seq slots
    pub heads : head_from (256 - k) k slots head ≡ head_in slots

  module _ (table : List Raw) (tags ids : List ℕ) (count head k : ℕ) (s : Scanning table tags ids count head k) (more : k < 256) where
    -- the key's place, as `find` has it
    pub place_found : (tag id : ℕ) → key_place tag id (take count tags) (take count ids) ≡ place_of tag id s.found
    place_found tag id = ap₂ (key_place tag id) s.tags_are s.ids_are ∙ key-place tag id s.found

    -- an erased slot is passed over
    pub pass : all_are 0xFF (slots k) ≡ true → Scanning table tags ids count head (k + 1)
    pass erased = record {
      found = s.found;
      size = s.size;
      most = s.most;
      standing = s.standing;
      tags_long = s.tags_long;
      ids_long = s.ids_long;
      tags_are = s.tags_are;
      ids_are = s.ids_are;
      low = omega (arith, s.low);
      high = omega arith;
      rest =
          ap (λ (o : Option Raw). read_from (256 - (k + 1)) (k + 1) seq slots (with_record o s.found)) (sym (erased-none seq (slots k) erased))
          ∙ sym (read_step k (these s.found) more)
          ∙ s.rest;
      heads = ap (λ (b : Bool). head_from (256 - (k + 1)) (k + 1) slots (pick b head (k + 1))) (sym erased) ∙ sym (head_step k head more) ∙ s.heads;
    }

    module _ (used : all_are 0xFF (slots k) ≡ false) where
      headed : head_from (256 - (k + 1)) (k + 1) slots (k + 1) ≡ head_in slots
      headed = ap (λ (b : Bool). head_from (256 - (k + 1)) (k + 1) slots (pick b head (k + 1))) (sym used) ∙ sym (head_step k head more) ∙ s.heads

      -- what is no record moves head alone
      pub skip : decoded seq (slots k) ≡ None → Scanning table tags ids count (k + 1) (k + 1)
      skip no_record = record {
        found = s.found;
        size = s.size;
        most = s.most;
        standing = s.standing;
        tags_long = s.tags_long;
        ids_long = s.ids_long;
        tags_are = s.tags_are;
        ids_are = s.ids_are;
        low = omega (arith, s.low);
        high = omega arith;
        rest =
            ap (λ (o : Option Raw). read_from (256 - (k + 1)) (k + 1) seq slots (with_record o s.found)) (sym no_record)
            ∙ sym (read_step k (these s.found) more)
            ∙ s.rest;
        heads = headed;
      }

      module _ (r : Raw) (is-record : decoded seq (slots k) ≡ Some r) where
        abbrev pub at : ℕ
        at = place_of r.tag r.id s.found

        taken : has_room limit r s.found ≡ true → read_from (256 - (k + 1)) (k + 1) seq slots (these (absorbed r s.found)) ≡ records_in seq slots
        taken room =
            ap (λ (b : Bool). read_from (256 - (k + 1)) (k + 1) seq slots (pick b (these (absorbed r s.found)) too_many)) (sym room)
            ∙ ap (λ (o : Option Raw). read_from (256 - (k + 1)) (k + 1) seq slots (with_record o s.found)) (sym is-record)
            ∙ sym (read_step k (these s.found) more)
            ∙ s.rest

        held-room : at < count → has_room limit r s.found ≡ true
        held-room h =
            ap (λ (b : Bool). b || ltb (length s.found) limit)
            (sym (place-holds r.tag r.id s.found)
            ∙ lt-ltb (place_of r.tag r.id s.found) (length s.found) (omega (arith, s.size)))

        not-held : count ≤ at → holds r.tag r.id s.found ≡ false
        not-held h =
            sym (place-holds r.tag r.id s.found)
            ∙ le-ltb (place_of r.tag r.id s.found) (length s.found) (omega (arith, s.size))

        add-room : count ≤ at → count < limit → has_room limit r s.found ≡ true
        add-room h room = ap₂ (λ (a b : Bool). a || b) (not-held h) (lt-ltb (length s.found) limit (omega (arith, s.size)))

        no_room : count ≤ at → count ≡ limit → has_room limit r s.found ≡ false
        no_room h none_left = ap₂ (λ (a b : Bool). a || b) (not-held h) (le-ltb (length s.found) limit (omega (arith, s.size)))

        key_there : at < count → has_key r.tag r.id (get_or s.found at nowhere) ≡ true
        key_there h = place_key r.tag r.id s.found (omega (arith, s.size))

        -- a key that is held: its record is replaced in its place
        pub replace : at < count → falls r (get_or s.found at nowhere) ≡ false → Scanning (set table at r) tags ids count (k + 1) (k + 1)
        replace h rises =
            let held = get_or s.found at nowhere in
            let key = key_there h in
            record {
              found = set s.found at r;
              size = length-set s.found at r ∙ s.size;
              most = s.most;
              standing = ap (λ (l : List Raw). set l at r) s.standing ∙ places-set s.found at r (omega (arith, s.size));
              tags_long = s.tags_long;
              ids_long = s.ids_long;
              tags_are =
                  s.tags_are
                  ∙ sym
                  (map-set_same (λ (x : Raw). x.tag) s.found at r nowhere
                  (sym (eqb-true held.tag r.tag (first (eqb held.tag r.tag) (eqb held.id r.id) key))));
              ids_are =
                  s.ids_are
                  ∙ sym
                  (map-set_same (λ (x : Raw). x.id) s.found at r nowhere
                  (sym (eqb-true held.id r.id (second (eqb held.tag r.tag) (eqb held.id r.id) key))));
              low = omega (arith, s.low);
              high = omega arith;
              rest =
                  ap (λ (l : List Raw). read_from (256 - (k + 1)) (k + 1) seq slots (these l))
                  (sym (absorb_join r s.found rises ∙ join_held r s.found (omega (arith, s.size))))
                  ∙ taken (held-room h);
              heads = headed;
            }

        -- a monotonic value that falls is ignored
        pub keep : at < count → falls r (get_or s.found at nowhere) ≡ true → Scanning table tags ids count (k + 1) (k + 1)
        keep h fell =
            record {
              found = s.found;
              size = s.size;
              most = s.most;
              standing = s.standing;
              tags_long = s.tags_long;
              ids_long = s.ids_long;
              tags_are = s.tags_are;
              ids_are = s.ids_are;
              low = omega (arith, s.low);
              high = omega arith;
              rest =
                  ap (λ (l : List Raw). read_from (256 - (k + 1)) (k + 1) seq slots (these l))
                  (sym (absorb_kept r s.found (omega (arith, s.size)) fell))
                  ∙ taken (held-room h);
              heads = headed;
            }

        new_key : count ≤ at → at ≡ length s.found
        new_key h = omega (arith, s.size, place-most r.tag r.id s.found)

        -- a new key joins at the end
        pub add : count ≤ at → count < limit
            → Scanning (set table count r) (set tags count r.tag) (set ids count r.id) (count + 1) (k + 1) (k + 1)
        add h room =
            let t = s.found in
            record {
              found = t ++ (r ∷ []);
              size = length-append t (r ∷ []) ∙ ap (λ (n : ℕ). n + 1) s.size;
              most = omega arith;
              standing = ap₂ (λ (l : List Raw) (n : ℕ). set l n r) s.standing (sym s.size) ∙ places-add t r (omega (arith, s.size));
              tags_long = length-set tags count r.tag ∙ s.tags_long;
              ids_long = length-set ids count r.id ∙ s.ids_long;
              tags_are = beside-stored (λ (x : Raw). x.tag) t r tags count (omega (arith, s.tags_long)) s.tags_are;
              ids_are = beside-stored (λ (x : Raw). x.id) t r ids count (omega (arith, s.ids_long)) s.ids_are;
              low = omega (arith, s.low);
              high = omega arith;
              rest =
                  ap (λ (l : List Raw). read_from (256 - (k + 1)) (k + 1) seq slots (these l)) (sym (absorb_new r t (new_key h)))
                  ∙ taken (add-room h room);
              heads = headed;
            }

        -- and where there is no room for it, the sector can't be read
        pub full : count ≤ at → count ≡ limit → records_in seq slots ≡ too_many
        full h none_left =
            sym s.rest
            ∙ read_step k (these s.found) more
            ∙ ap (λ (o : Option Raw). read_from (256 - (k + 1)) (k + 1) seq slots (with_record o s.found)) is-record
            ∙ ap (λ (b : Bool). read_from (256 - (k + 1)) (k + 1) seq slots (pick b (these (absorbed r s.found)) too_many)) (no_room h none_left)
            ∙ read-full (256 - (k + 1)) (k + 1)
