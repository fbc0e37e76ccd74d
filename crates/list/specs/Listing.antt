-- The listing of document 01, worked case 8: "state, sector, seq, head, records, then bytes 0..11 of each in table order".
use Rattle.std.specs.Prelude.{List, [], ◌∷◌, ◌++◌, ℕ, ◌+◌, ◌*◌, ltb}
use Rattle.basics.specs.Choice.{pick}
use Rattle.basics.specs.Answers.{is_done}
use Rattle.codec.specs.declared.Raw.{Raw}
use Rattle.records.specs.declared.State.{State}
use Rattle.records.specs.declared.State.TheVariants.{Unformatted, Failed, Active}
use Rattle.records.specs.declared.Log.{Log}
use Rattle.records.specs.Table.{limit}
use Rattle.records.specs.Logs.{records_of}
use Rattle.scan.specs.declared.Opened.{Opened}
use Rattle.scan.specs.Opening.{open_of}
use Rattle.text.specs.Text.{decimal}

-- a number and the byte behind it
abbrev pub number : ℕ → ℕ → List ℕ
number x behind = decimal x ++ (behind ∷ [])

-- numbers on a line, one space between, with a newline at the end
unfoldable pub line : ℕ → List ℕ → List ℕ
line x [] = number x 10
line x (y ∷ ys) = number x 32 ++ line y ys

-- "bytes 0..11 of each"
abbrev pub record_line : Raw → List ℕ
record_line r = line r.tag (r.id ∷ r.body)

unfoldable pub record_lines : List Raw → List ℕ
record_lines [] = []
record_lines (r ∷ rs) = record_line r ++ record_lines rs

-- "active " in ASCII
abbrev pub active : List ℕ
active = 97 ∷ 99 ∷ 116 ∷ 105 ∷ 118 ∷ 101 ∷ 32 ∷ []

-- "Else one word alone: unformatted, failed, bad-image."
abbrev pub unformatted : List ℕ
unformatted = 117 ∷ 110 ∷ 102 ∷ 111 ∷ 114 ∷ 109 ∷ 97 ∷ 116 ∷ 116 ∷ 101 ∷ 100 ∷ 10 ∷ []

abbrev pub failed : List ℕ
failed = 102 ∷ 97 ∷ 105 ∷ 108 ∷ 101 ∷ 100 ∷ 10 ∷ []

abbrev pub bad_image : List ℕ
bad_image = 98 ∷ 97 ∷ 100 ∷ 45 ∷ 105 ∷ 109 ∷ 97 ∷ 103 ∷ 101 ∷ 10 ∷ []

-- "state, sector, seq, head, records"
abbrev pub active_line : ℕ → ℕ → ℕ → ℕ → List ℕ
active_line sector seq head count = active ++ line sector (seq ∷ head ∷ count ∷ [])

abbrev pub state_listing : Log → State → List ℕ
state_listing l Unformatted = unformatted
state_listing l Failed = failed
state_listing l (Active sector seq head) = active_line sector seq head l.count ++ record_lines (records_of l)

abbrev pub opened_listing : Opened → List ℕ
opened_listing o = pick (is_done o.answer) (state_listing o.log o.log.state) bad_image

unfoldable pub listing_of : List ℕ → List ℕ
listing_of image = opened_listing (open_of image)

-- no listing is longer: 28 bytes for the state, 48 for each record
abbrev pub longest : ℕ
longest = 28 + 48 * limit

-- what is written into a buffer of this size: nothing where the longest listing might not fit
unfoldable pub listing_in : ℕ → List ℕ → List ℕ
listing_in size image = pick (ltb size longest) [] (listing_of image)
