-- How long a listing can be, and how much of a text decides it: what the buffers of a program must have room for.
use Rattle.std.specs.Prelude.{ℕ, ◌+◌, ◌≤◌, ◌<◌, ◌≡◌, List, length, take, ℤ}
use Rattle.std.proofs.Common.{arith, ap}
use Rattle.std.proofs.Math.Option.{Option, none, some}
use Rattle.text.specs.Ascii.{ascii}
use Rattle.text.specs.declared.TextLocation.{TextLocation}
use Rattle.text.specs.Outcome.{Outcome, accepted, refused, unplaced}
use Rattle.header.specs.Header.{Head}
use Rattle.image.specs.Limited.{unread, limited}
use Rattle.image.proofs.Limited.{within-long, within-short, within-beginning}
use Rattle.print.proofs.Output.{length-joined-two, length-joined-three, length-joined-four}
use Rattle.print.specs.Decimal.{decimal, signed}
use Rattle.print.proofs.Decimal.{digits-short, signed-short}
use Rattle.printing.specs.Printed.{field_text, hot_text, sides_text, hotspot_text, ink_text, accepted_text, place_text, printed}
use Rattle.listing.specs.Listing.{text_limit, cell_limit, listed_of, listed_within, listed, listing}

-- ---- the output

field-short : (w : List ℕ) (n : ℕ) → length (field_text w n) ≤ length w + 20
field-short w n = omega (arith, length-joined-two w (decimal n), digits-short 20 n)

hot-short : (o : Option (ℤ × ℤ)) → length (hot_text o) ≤ 43
hot-short none = omega arith
hot-short (some (x, y)) = omega (arith, length-joined-three (signed x) (ascii " ") (signed y), signed-short x, signed-short y)

accepted-short : (h : Head) (k : ℕ) → length (accepted_text h k) ≤ 132
accepted-short h k =
    omega (
      arith,
      length-joined-three (sides_text h.width h.height) (hotspot_text h.hot) (ink_text k),
      length-joined-two (field_text (ascii "width ") h.width) (field_text (ascii "\nheight ") h.height),
      field-short (ascii "width ") h.width,
      field-short (ascii "\nheight ") h.height,
      length-joined-two (ascii "\nhotspot ") (hot_text h.hot),
      hot-short h.hot,
      length-joined-two (field_text (ascii "\nink ") k) (ascii "\n"),
      field-short (ascii "\nink ") k,
    )

place_short : (p : TextLocation) → length (place_text p) ≤ 104
place_short p =
    omega (
      arith,
      length-joined-four (field_text (ascii " byte=") p.byte.0) (field_text (ascii ",line=") p.line.0) (field_text (ascii ":col=") p.column.0) (field_text (ascii ",start=") p.start.0),
      field-short (ascii " byte=") p.byte.0,
      field-short (ascii ",line=") p.line.0,
      field-short (ascii ":col=") p.column.0,
      field-short (ascii ",start=") p.start.0,
    )

refused-short : (c : ℕ) (p : TextLocation) (k : ℕ) → length (printed (refused c p) k) ≤ 133
refused-short c p k =
    omega (arith, length-joined-three (field_text (ascii "refused ") c) (place_text p) (ascii "\n"), field-short (ascii "refused ") c, place_short p)

-- 133 is a refusal with a place, each of its five numbers of 20 digits
pub printed-short : (a : Outcome Head) (k : ℕ) → length (printed a k) ≤ 133
printed-short (accepted h) k = omega (arith, accepted-short h k)
printed-short (refused c p) k = omega (arith, refused-short c p k)
printed-short (unplaced c) k = omega (arith, length-joined-two (field_text (ascii "refused ") c) (ascii "\n"), field-short (ascii "refused ") c)

-- every listing
pub listing-short : (text name cells : List ℕ) → length (listing text name cells) ≤ 133
listing-short text name cells = printed-short (listed text name cells).told (listed text name cells).ink

-- ---- the text

-- a text above the limit is 41
pub listed-long : (text name cells : List ℕ) → text_limit < length text → listed text name cells ≡ listed_of (unread (unplaced 41) name cells)
unfolding listed_within
listed-long text name cells h = ap listed_of (within-long text_limit cell_limit text name cells h)

-- any other is read, within the limit on the cells
pub listed-short : (text name cells : List ℕ) → length text ≤ text_limit → listed text name cells ≡ listed_of (limited cell_limit text name cells)
unfolding listed_within
listed-short text name cells h = ap listed_of (within-short text_limit cell_limit text name cells h)

-- the first n bytes of a text are listed as the text is, if n is above the limit
pub listed-beginning : (text name cells : List ℕ) (n : ℕ) → text_limit < n → listed (take n text) name cells ≡ listed text name cells
unfolding listed_within
listed-beginning text name cells n h = ap listed_of (within-beginning text_limit cell_limit text name cells n h)
