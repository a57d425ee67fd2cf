-- The theorems about what specs/Lexical.antt defines.
use Rattle.std.specs.Prelude.{ℕ, List, [], ◌∷◌, Bool}
use Rattle.std.proofs.Math.Option.{none, some}
use Rattle.text.specs.Reader.{Local, Firm, Mild, Grows}
use Rattle.text.proofs.Reader.{bind-local, bind-firm, bind-mild, grow-firm, grow-grows, bind-grows-left}
use Rattle.text.proofs.Leaf.{give-local, give-firm, give-mild, want-local, want-firm, want-mild, need-local, need-firm, one_local, one-firm, one_grows, one-mild, run-local, run-mild, fork-local, fork-firm, fork-mild, fork-grows, eot-local}
use Rattle.lexical.specs.Lexical.{when, any_byte, byte, is, while, skip, fixed, gap, line_end, lead, leading}

-- ---- laws

pub any-local : (c : ℕ) → Local (any_byte c)
unfolding any_byte
any-local c = one_local c (λ b. some b)

pub any-firm : (c : ℕ) → Firm (any_byte c)
unfolding any_byte
any-firm c = one-firm c (λ b. some b)

pub leading-local : (c : ℕ) (fresh : Bool) → Local (leading c fresh)
unfolding leading
leading-local c fresh = run-local c lead (λ s. none) fresh

pub leading-mild : (c : ℕ) (fresh : Bool) → Mild (leading c fresh)
unfolding leading
leading-mild c fresh = run-mild c lead (λ s. none) fresh

module _ (c : ℕ) (class : ℕ → Bool) where
  pub byte-local : Local (byte c class)
  unfolding byte
  byte-local = one_local c (λ b. when (class b))

  pub byte-firm : Firm (byte c class)
  unfolding byte
  byte-firm = one-firm c (λ b. when (class b))

  pub byte-mild : Mild (byte c class)
  unfolding byte
  byte-mild = one-mild c (λ b. when (class b))

  pub byte-grows : Grows (byte c class)
  unfolding byte
  byte-grows = one_grows c (λ b. when (class b))

pub skip-local : (class : ℕ → Bool) → Local (skip class)
unfolding skip
skip-local class = run-local 0 (while class) (λ s. some tt) tt

pub skip-mild : (class : ℕ → Bool) → Mild (skip class)
unfolding skip
skip-mild class = run-mild 0 (while class) (λ s. some tt) tt

pub fixed-local : (c : ℕ) (w : List ℕ) → Local (fixed c w)
unfolding fixed
fixed-local c [] = give-local tt
fixed-local c (x ∷ w) = bind-local (byte-local c (is x)) (λ a. fixed-local c w)

pub fixed-firm : (c : ℕ) (w : List ℕ) → Firm (fixed c w)
unfolding fixed
fixed-firm c [] = give-firm tt
fixed-firm c (x ∷ w) = bind-firm (byte-local c (is x)) (λ a. fixed-local c w) (byte-firm c (is x)) (λ a. fixed-firm c w)

pub fixed-mild : (c : ℕ) (w : List ℕ) → Mild (fixed c w)
unfolding fixed
fixed-mild c [] = give-mild tt
fixed-mild c (x ∷ w) = bind-mild (byte-local c (is x)) (λ a. fixed-local c w) (byte-mild c (is x)) (λ a. fixed-mild c w)

pub fixed-grows : (c x : ℕ) (w : List ℕ) → Grows (fixed c (x ∷ w))
unfolding fixed
fixed-grows c x w = bind-grows-left (byte-local c (is x)) (λ a. fixed-local c w) (byte-grows c (is x))

pub ruleset locals = (bind-local, byte-local, skip-local, fixed-local, give-local, want-local, need-local, fork-local, eot-local, one_local, run-local)

pub ruleset milds = (bind-mild, byte-mild, skip-mild, fixed-mild, give-mild, want-mild, fork-mild, one-mild, run-mild)

pub ruleset firms = (bind-firm, grow-firm, grow-grows, bind-grows-left, byte-firm, byte-grows, fixed-firm, fixed-grows, give-firm, want-firm, need-firm, fork-firm, fork-grows, one-firm, one_grows, locals, milds)

pub gap-local : (c : ℕ) → Local (gap c)
unfolding gap
gap-local c = search locals

pub gap-mild : (c : ℕ) → Mild (gap c)
unfolding gap
gap-mild c = search (milds, locals)

pub line_end-local : (c : ℕ) → Local (line_end c)
unfolding line_end
line_end-local c = search locals

pub line_end-firm : (c : ℕ) → Firm (line_end c)
unfolding line_end
line_end-firm c = search firms

pub line_end-mild : (c : ℕ) → Mild (line_end c)
unfolding line_end
line_end-mild c = search (milds, locals)

pub line_end-grows : (c : ℕ) → Grows (line_end c)
unfolding line_end
line_end-grows c = search firms
