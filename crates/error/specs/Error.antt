-- An error as document 01's number and place, and what is told of it.
use Rattle.std.specs.Prelude.{ℕ, ◌+◌, ◌*◌, Option, Some, None, Result as Answer}
use Rattle.text.specs.declared.TextLocation.{TextLocation}
use Rattle.text.specs.declared.TextReader.{TextReader}
use Rattle.text.specs.Reader.{Reader}
use Rattle.text.specs.Outcome.{Outcome, refused, unplaced}
use Rattle.lexical.specs.Lexical.{number}
use Rattle.lexical.specs.Reads.{Telling, placed, alone, number_told, Gives}
use Rattle.lexical.specs.declared.XbmPart.{XbmPart}
use Rattle.integer.specs.declared.Fault.{Fault}
use Rattle.integer.specs.Decimal.{fault_number}
use Rattle.error.specs.declared.XbmDecodeError.{XbmDecodeError}
use Rattle.error.specs.declared.XbmDecodeError.TheVariants.{Parse, DecodeInteger, ZeroWidth, ZeroHeight}
use Rattle.error.specs.declared.ImageError.{ImageError}
use Rattle.error.specs.declared.ImageError.TheVariants.{Decode, DimensionMismatch}
use Rattle.error.specs.declared.Refusal.{Refusal}

-- the number of an integer's fault: ten for its part, from 110 on, and the fault's among them
abbrev pub integer_number : XbmPart → Fault → ℕ
integer_number part f = 100 + 10 * number part + fault_number f

-- what an error tells, by document 01; the place is where it is found, whether the error holds one or not
abbrev pub tells : {P : Type 0} → XbmDecodeError P → Telling
tells (Parse part p) = placed (number part)
tells (DecodeInteger part f) = alone (integer_number part f)
tells ZeroWidth = alone 21
tells ZeroHeight = alone 22

-- the same error, with a place where it holds one
abbrev pub located : TextLocation → XbmDecodeError (Unit {0}) → XbmDecodeError TextLocation
located p (Parse part u) = Parse part p
located p (DecodeInteger part f) = DecodeInteger part f
located p ZeroWidth = ZeroWidth
located p ZeroHeight = ZeroHeight

-- its number
abbrev pub error_number : {P : Type 0} → XbmDecodeError P → ℕ
error_number e = number_told (tells e)

-- its place, where one is told
abbrev pub place_of_error : XbmDecodeError TextLocation → Option TextLocation
place_of_error (Parse part p) = Some p
place_of_error (DecodeInteger part f) = None
place_of_error ZeroWidth = None
place_of_error ZeroHeight = None

abbrev pub refusal_of : XbmDecodeError TextLocation → Refusal
refusal_of e = record { number = error_number e; place = place_of_error e }

-- what is told of a refusal
abbrev pub told_at : {A : Type 0} → ℕ → Option TextLocation → Outcome A
told_at c (Some p) = refused c p
told_at c None = unplaced c

abbrev pub told_refusal : {A : Type 0} → Refusal → Outcome A
told_refusal r = told_at r.number r.place

abbrev pub told_error : {A : Type 0} → XbmDecodeError TextLocation → Outcome A
told_error e = told_refusal (refusal_of e)

-- the reader old read by p, with an error that holds no place
abbrev pub Decodes : {A : Type 0} → Reader A → TextReader → TextReader → Answer A (XbmDecodeError (Unit {0})) → Type 0
Decodes p old new r = Gives tells p old new r

-- ---- of a picture: an error, or rows of the buffer that are not the picture's

abbrev pub image_tells : {P : Type 0} → ImageError P → Telling
image_tells (Decode e) = tells e
image_tells DimensionMismatch = alone 31

abbrev pub image_located : TextLocation → ImageError (Unit {0}) → ImageError TextLocation
image_located p (Decode e) = Decode (located p e)
image_located p DimensionMismatch = DimensionMismatch

abbrev pub place_of_image_error : ImageError TextLocation → Option TextLocation
place_of_image_error (Decode e) = place_of_error e
place_of_image_error DimensionMismatch = None

abbrev pub image_refusal : ImageError TextLocation → Refusal
image_refusal e = record { number = number_told (image_tells e); place = place_of_image_error e }
