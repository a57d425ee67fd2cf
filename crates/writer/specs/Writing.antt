-- Writing a mask into a lent buffer: what is answered, and what the buffer holds later.
use Rattle.std.specs.Prelude.{ℕ, Bool, true, false, List, [], ◌∷◌, length, eqb, leb, ℤ, None, Result as Answer, Ok, Err}
use Rattle.std.proofs.Math.Option.{Option}
use Rattle.text.specs.Place.{pick}
use Rattle.text.specs.Outcome.{Outcome, accepted, unplaced}
use Rattle.lexical.specs.Token.{overlay}
use Rattle.mask.specs.Fault.{fault, error_number}
use Rattle.error.specs.declared.Refusal.{Refusal}
use Rattle.writer.specs.Written.{written}
use Rattle.writer.specs.declared.XbmEncodeError.{XbmEncodeError}
use Rattle.writer.specs.declared.XbmEncodeError.TheVariants.{BadName, Mask, ShortOutput}

-- a space, a tab or a newline
abbrev pub breaks : ℕ → Bool
breaks b = pick (eqb b 32) true (pick (eqb b 9) true (eqb b 10))

-- none of them is in a name
abbrev pub unbroken : List ℕ → Bool
unbroken [] = true
unbroken (b ∷ w) = pick (breaks b) false (unbroken w)

-- a name that a symbol of 256 bytes can hold
abbrev pub name_limit : ℕ
name_limit = 250

abbrev pub good_name : List ℕ → Bool
good_name name = pick (leb (length name) name_limit) (unbroken name) false

-- what is wrong with the mask, in the order of checking: 51 the name, 52 to 54 the mask; 0 where nothing is
unfoldable pub wrong : List ℕ → ℕ → ℕ → List ℕ → ℕ
wrong name w h cells = pick (good_name name) (fault w h cells) 51

pub record Writing : Type 0 where
  -- the text's length, or the refusal's number
  pub answer : Outcome ℕ
  -- the later output buffer
  pub bytes : List ℕ

-- a text at the buffer's start, what follows it as lent; 55 where the buffer is too short for it
abbrev pub stored : List ℕ → List ℕ → Writing
stored text out = record {
  answer = pick (leb (length text) (length out)) (accepted (length text)) (unplaced 55);
  bytes = pick (leb (length text) (length out)) (overlay text out) out;
}

abbrev pub refusal : ℕ → List ℕ → Writing
refusal c out = record { answer = unplaced c; bytes = out }

unfoldable pub writing : List ℕ → ℕ → ℕ → Option (ℤ × ℤ) → List ℕ → List ℕ → Writing
writing name w h hot cells out = pick (eqb (wrong name w h cells) 0) (stored (written name w h hot cells) out) (refusal (wrong name w h cells) out)

-- ---- what the code answers

-- the number of an error, by document 02
abbrev pub number_of : XbmEncodeError → ℕ
number_of BadName = 51
number_of (Mask e) = error_number e
number_of ShortOutput = 55

abbrev pub refusal_of : XbmEncodeError → Refusal
refusal_of e = record { number = number_of e; place = None }

-- what is found wrong; 0 where nothing is
abbrev pub told_check : Answer (Unit {0}) XbmEncodeError → ℕ
told_check (Ok u) = 0
told_check (Err e) = number_of e

abbrev pub told_written : Answer ℕ XbmEncodeError → Outcome ℕ
told_written (Ok n) = accepted n
told_written (Err e) = unplaced (number_of e)

-- an answer of the code and the buffer after it, as a writing
abbrev pub told_writing : Answer ℕ XbmEncodeError → List ℕ → Writing
told_writing r out = record { answer = told_written r; bytes = out }
