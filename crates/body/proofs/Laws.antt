-- What a step of the code says of data bytes and of the trailer.
use Prim.Native.Nat.{ℕ, ◌*◌, ◌^◌, ◌<◌}
use lib.Dec.{eqb}
use mathlib.Core.Path.{◌≡◌, refl}
use mathlib.Core.List.{List, [], ◌∷◌}
use lib.ListN.{length}
use mathlib.Core.Bool.{Bool, true, false}
use Rattle.std.specs.Option.{option_eq}
use Rattle.std.specs.Prelude.{Option as Taken, Some, None}
use Rattle.text.specs.declared.TextLocation.{TextLocation}
use Rattle.text.specs.Place.{pick, peeked_at, past_byte}
use Rattle.text.specs.TextReader.{onward_at}
use Rattle.text.specs.Reader.{ok, stop, ◌>>=◌, ◌>>◌}
use Rattle.text.specs.Leaf.{one, run, fork, eot}
use Rattle.text.proofs.Laws.{end_rest, next-rest, next_past}
use Rattle.lexical.specs.Lexical.{is_blank, is_loose, skip, byte, is, fixed}
use Rattle.lexical.proofs.Laws.{bind_then}
use Rattle.hexadecimal.specs.Hex.{hex_byte}
use Rattle.body.specs.Data.{item, brace}
use Rattle.body.specs.Code.{separator, ended}

-- the end of the text
module _ (t : List ℕ) (i : TextLocation) where
  pub end-here : peeked_at t i ≡ None → ended t i ≡ ok tt (onward_at t i)
  unfolding eot
  end-here h = rw (end_rest t i refl h)

  pub end-later : {b : ℕ} → peeked_at t i ≡ Some b → ended t i ≡ stop 8 (onward_at t i)
  unfolding eot
  end-later h = rw (next-rest t i refl h)

pub ruleset end_laws = (end-here, end-later)

-- where a comma stands, and is passed
module _ (t : List ℕ) (i : TextLocation) (h : peeked_at t i ≡ Some 44) (l : length t * 1 < 2 ^ 63) where
  -- between two data bytes it stands at once
  pub separator_at_once : separator t i ≡ ok tt (past_byte i 44)
  unfolding skip run is_loose is_blank byte one ◌>>=◌
  separator_at_once = let n = next-rest t i refl h in rw (next_past t i refl h l, n, n)

  pub brace-comma : brace t i ≡ (skip is_loose >> fixed 7 (125 ∷ [])) t (past_byte i 44)
  unfolding brace fork byte one ◌>>=◌
  brace-comma = let n = next-rest t i refl h in rw (next_past t i refl h l, n, n)

-- the brace where no comma stands
pub brace-plain : (t : List ℕ) (i : TextLocation) (m : Taken ℕ) → m ≡ peeked_at t i → option_eq eqb m (Some 44) ≡ false → brace t i ≡ fixed 7 (125 ∷ []) t i
unfolding brace fork fixed byte one ◌>>=◌
brace-plain t i None e h = rw (end_rest t i e refl)
brace-plain t i (Some b) e h = go (eqb b 125) refl
  where
    go : (y : Bool) → eqb b 125 ≡ y → brace t i ≡ fixed 7 (125 ∷ []) t i
    go true f = let n = next-rest t i e refl in rw (n, h, f, n, f)
    go false f = rw (next-rest t i e refl, h, f)

pub ruleset brace_laws = (bind_then, brace-comma, brace-plain)

-- a data byte by whether it is the first
pub item_is : (f : Bool) (t : List ℕ) (i : TextLocation) → item f t i ≡ pick f ((skip is_loose >> hex_byte 6) t i) ((skip is_loose >> byte 6 (is 44) >> skip is_loose >> hex_byte 6) t i)
unfolding item
item_is true t i = refl
item_is false t i = refl
