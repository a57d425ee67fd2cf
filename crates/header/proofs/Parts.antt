-- The code's parts of the header, one after another, are the header.
use Prim.Native.Nat.{ℕ}
use Rattle.std.specs.Prelude.{eqb}
use mathlib.Core.Path.{◌≡◌, refl, ap, fun_ext}
use mathlib.Core.Bool.{Bool, true, false}
use mathlib.Core.List.{List, [], ◌∷◌}
use Rattle.text.specs.declared.TextLocation.{TextLocation}
use Rattle.text.specs.Place.{rest}
use Rattle.text.specs.Reader.{Result, ok, stop, bad, Reader, then, ◌>>=◌}
use Rattle.text.specs.Leaf.{give, choose, fork_of, fork}
use Rattle.lexical.proofs.Laws.{bind_then}
use Rattle.symbol.specs.Symbol.{opening, width_symbol}
use Rattle.lines.specs.Lines.{symbol, width_line, define_line}
use Rattle.hotspot.specs.Hotspot.{coordinate_line, spot}
use Rattle.header.specs.Header.{Head, rest as rest_lines, header}
use Rattle.header.specs.Answer.{rest_of, sides_of}

then-assoc : {A B C : Type 0} (r : Result A) (f : A → TextLocation → Result B) (g : B → TextLocation → Result C)
    → then (then r f) g ≡ then r (λ a e. then (f a e) g)
then-assoc (ok a e) f g = refl
then-assoc (stop c e) f g = refl
then-assoc (bad c e) f g = refl

bind_assoc : {A B C : Type 0} (p : Reader A) (f : A → Reader B) (g : B → Reader C) → (p >>= f) >>= g ≡ p >>= λ a. f a >>= g
unfolding ◌>>=◌
bind_assoc p f g = fun_ext (λ t. fun_ext (λ i. then-assoc (p t i) (λ a e. f a t e) (λ b e. g b t e)))

give-bind : {A B : Type 0} (a : A) (f : A → Reader B) → give a >>= f ≡ f a
unfolding ◌>>=◌ give
give-bind a f = refl

choose-bind : {A B : Type 0} (c : ℕ) (e : TextLocation) (p q : Reader A) (f : A → Reader B) (u v : Bool) (t : List ℕ) (i : TextLocation)
    → then (choose c e p q u v t i) (λ a n. f a t n) ≡ choose c e (p >>= f) (q >>= f) u v t i
unfolding ◌>>=◌
choose-bind c e p q f true v t i = refl
choose-bind c e p q f false true t i = refl
choose-bind c e p q f false false t i = refl

fork_bind : {A B : Type 0} (c x y : ℕ) (p q : Reader A) (f : A → Reader B) → fork c x p y q >>= f ≡ fork c x (p >>= f) y (q >>= f)
unfolding ◌>>=◌ fork
fork_bind c x y p q f = fun_ext (λ t. fun_ext (λ i. go t i (rest t i)))
  where
    go : (t : List ℕ) (i : TextLocation) (l : List ℕ) → then (fork_of c x p y q l t i) (λ a n. f a t n) ≡ fork_of c x (p >>= f) y (q >>= f) l t i
    go t i [] = refl
    go t i (b ∷ l) = choose-bind c _ p q f (eqb b x) (eqb b y) t i

-- the width's symbol and what follows it
pub parts : (limit : ℕ) (t : List ℕ) (i : TextLocation) → header limit t i ≡ (width_symbol limit >>= λ name. sides_of name) t i
unfolding define_line coordinate_line spot rest_of sides_of width_symbol symbol width_line rest_lines header opening
parts limit t i =
    let e : header limit ≡ width_symbol limit >>= λ name. sides_of name = simp (bind_assoc, give-bind, fork_bind) in
    ap (λ (p : Reader Head). p t i) e

-- what a reading of the header rests on
pub ruleset header_laws = (parts, bind_then)
