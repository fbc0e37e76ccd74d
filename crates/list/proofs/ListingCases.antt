-- What is written into a buffer, case by case.
use mathlib.Core.Path.{◌≡◌, sym, ap, ap₂, ◌∙◌}
use mathlib.Core.Bool.{Bool, true, false}
use mathlib.Core.List.{List, []}
use Prim.Native.Nat.{ℕ, ◌≤◌, ◌<◌}
use borrow.Author.Tests.{lt-ltb, le-ltb}
use Rattle.basics.specs.Choice.{pick}
use Rattle.basics.specs.Answers.{is_done}
use Rattle.records.specs.declared.State.{State}
use Rattle.scan.specs.declared.Opened.{Opened}
use Rattle.scan.specs.Opening.{open_of}
use Rattle.list.specs.Listing.{bad_image, state_listing, opened_listing, listing_of, longest, listing_in}

pub too_short : (size : ℕ) (image : List ℕ) → size < longest → listing_in size image ≡ []
unfolding listing_in
too_short size image h = ap (λ (b : Bool). pick b [] (listing_of image)) (lt-ltb size longest h)

module _ (size : ℕ) (image : List ℕ) (o : Opened) (room : longest ≤ size) (opens : o ≡ open_of image) where
  whole : listing_in size image ≡ opened_listing o
  unfolding listing_in listing_of
  whole = ap₂ (λ (b : Bool) (p : Opened). pick b [] (opened_listing p)) (le-ltb size longest room) (sym opens)

  pub no_image : is_done o.answer ≡ false → listing_in size image ≡ bad_image
  no_image e = whole ∙ ap (λ (b : Bool). pick b (state_listing o.log o.log.state) bad_image) e

  pub in_state : is_done o.answer ≡ true → (state : State) → o.log.state ≡ state → listing_in size image ≡ state_listing o.log state
  in_state e state s = whole ∙ ap (λ (b : Bool). pick b (state_listing o.log o.log.state) bad_image) e ∙ ap (state_listing o.log) s
