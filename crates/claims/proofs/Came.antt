-- Which data bytes came whole within a cut: by the grammar just those whose place in the log is within it; and where each stands in the text.
use Rattle.std.specs.Prelude.{◌≡◌, ℕ, suc, ◌*◌, ◌≤◌, ◌<◌, take}
use Rattle.std.proofs.Math.Path.{refl, sym, ap}
use Rattle.std.proofs.Common.{◌∙◌, length-take-le, take-suc}
use native.Mathlib.Omega.{arith}
use Rattle.std.proofs.Math.Bool.{true}
use mathlib.Core.List.{List, [], ◌∷◌, ◌++◌, append-nil, append_assoc}
use Rattle.std.proofs.Math.ListN.{length, get_or, length-append}
use Rattle.text.specs.Place.{byte_of, rest, start, past}
use Rattle.text.specs.Reader.{ok, end_of}
use Rattle.header.specs.Header.{header}
use Rattle.body.specs.Data.{items, Log, log_of, bytes_of}
use Rattle.grammar.specs.Lang.{Word, ◌·◌}
use Rattle.grammar.specs.Grammar.{Mask, Byte, Further, Data, Header, Format}
use Rattle.grammar.proofs.Bind.{past-byte, move}
use Rattle.grammar.proofs.Fits.{Any}
use Rattle.grammar.specs.Devices.{head_of}
use Rattle.grammar.proofs.Headers.{header-exactly}
use Rattle.grammar.proofs.Exact.{start-rest, data-fits}
use Rattle.claims.specs.Terms.{W, Came, Stands}
use Rattle.claims.proofs.Logs.{none_yet, Rising, log-rising, log-full, log-at, AtEntry}
use Rattle.claims.proofs.Painted.{has}
use Rattle.claims.proofs.Parts.{Parts, end, done, parts}

-- ---- the last data byte of a word of data

further-ends : (l : List ℕ) (x : ℕ) (w : List ℕ) → Further (l ++ x ∷ []) w → (v : List ℕ) × (z : List ℕ) × (w ≡ v ++ z) × Byte x z
unfolding Further ◌·◌ Word
further-ends [] x w (a, b, q, (c, d, q1, k1, (e, f, q2, k2, (g, h, q3, k3, k4))), k) = (c ++ (e ++ g), h, q ∙ rw (k, q1, q2, q3) (simp (append_assoc, append-nil)), k4)
further-ends (y ∷ l) x w (a, b, q, k, j) = let (v, z, p, h) = further-ends l x b j in (a ++ v, z, q ∙ ap (λ (c : List ℕ). a ++ c) p ∙ sym (append_assoc a v z), h)

data-ends : (l : List ℕ) (x : ℕ) (w : List ℕ) → Data (l ++ x ∷ []) w → (v : List ℕ) × (z : List ℕ) × (w ≡ v ++ z) × Byte x z
unfolding Data Further ◌·◌ Word
data-ends [] x w (a, b, q, (c, d, q1, k1, k4), k) = (c, d, q ∙ rw (k, q1) (append-nil (c ++ d)), k4)
data-ends (y ∷ l) x w (a, b, q, k, j) = let (v, z, p, h) = further-ends l x b j in (a ++ v, z, q ∙ ap (λ (c : List ℕ). a ++ c) p ∙ sym (append_assoc a v z), h)

module _ (lim : ℕ) (t : List ℕ) (m : Mask) (f : Format lim m t) where
  abbrev p : Parts lim t m (done lim t m f)
  p = parts lim t m f

  pub many : length m.bytes ≡ W m * m.height
  many = (end lim t m f).whole

  -- the data bytes of the whole text, each with the place after it
  abbrev pub entries : Log
  entries = log_of (bytes_of m.width m.height) true t p.from

  pub all : length entries ≡ length m.bytes
  all = (log-full (bytes_of m.width m.height) true t p.from m.bytes p.to p.run).0 ∙ sym many

  pub up : Rising (byte_of p.from) entries
  up = log-rising (bytes_of m.width m.height) true t p.from

  pub entry : (j : ℕ) → j < length m.bytes → AtEntry true t p.from m.bytes p.to j (get_or entries j none_yet)
  entry j h = log-at (bytes_of m.width m.height) true t p.from m.bytes p.to p.run j (omega (arith, many))

  -- ---- came whole, in both directions

  pub came→ : (n j : ℕ) → j < length m.bytes → Came lim m t n j → byte_of (get_or entries j none_yet).1 ≤ n
  unfolding ◌·◌ Any
  came→ n j h (u, v, q, l, (a, b, q2, ha, hb)) =
      let d : rest t start ≡ a ++ (b ++ v) = start-rest t ∙ q ∙ ap (λ (x : List ℕ). x ++ v) q2 ∙ append_assoc a b v in
      let x : header lim t start ≡ ok (head_of m) (past start a) = (header-exactly lim m t start (past start a)).1 (a, b ++ v, d, ha, tt, refl) in
      let z : p.from ≡ past start a = ap end_of (sym p.head ∙ x) in
      let o : rest t p.from ≡ b ++ v = ap (rest t) z ∙ move a (b ++ v) t start d in
      let w : items (suc j) true t p.from ≡ ok (take (suc j) m.bytes) (past p.from b) = (data-fits (suc j) (take (suc j) m.bytes)).from t p.from b v (length-take-le (suc j) m.bytes h) o hb tt in
      let y : (get_or entries j none_yet).1 ≡ past p.from b = ap end_of (sym (entry j h).1 ∙ w) in
      omega (arith, ap byte_of y, past-byte p.from b, ap byte_of z, past-byte start a, ap length q2, length-append a b)

  pub →came : (n j : ℕ) → j < length m.bytes → byte_of (get_or entries j none_yet).1 ≤ n → Came lim m t n j
  unfolding ◌·◌
  →came n j h l = go ((header-exactly lim m t start p.from).0 p.head) ((data-fits (suc j) (take (suc j) m.bytes)).to t p.from (get_or entries j none_yet).1 (entry j h).1).1
    where
      go : (a : List ℕ) × (x : List ℕ) × (rest t start ≡ a ++ x) × Header lim m a × Any x × (p.from ≡ past start a)
          → (b : List ℕ) × (v : List ℕ) × (rest t p.from ≡ b ++ v) × Data (take (suc j) m.bytes) b × Any v × ((get_or entries j none_yet).1 ≡ past p.from b)
          → Came lim m t n j
      go (a, x, d, ha, c, e) (b, v, o, hb, g, y) =
          let z : x ≡ b ++ v = sym (move a x t start d) ∙ ap (rest t) (sym e) ∙ o in
          (a ++ b, v, sym (start-rest t) ∙ d ∙ ap (λ (k : List ℕ). a ++ k) z ∙ sym (append_assoc a b v), omega (arith, length-append a b, ap byte_of y, past-byte p.from b, ap byte_of e, past-byte start a), (a, b, refl, ha, hb))

  -- ---- where a data byte stands

  pub stands : (k : ℕ) → k < length m.bytes → Stands lim m t k
  unfolding ◌·◌
  stands k h = go (→came (byte_of (get_or entries k none_yet).1) k h (omega arith))
    where
      go : Came lim m t (byte_of (get_or entries k none_yet).1) k → Stands lim m t k
      go (w, v, q, l, (a, d, q2, ha, hd)) =
          let (c, z, o, hz) = data-ends (take k m.bytes) (get_or m.bytes k 0) d (rw (take-suc m.bytes k 0) at hd) in
          let s : (a ++ c) ++ z ≡ w = append_assoc a c z ∙ ap (λ (x : List ℕ). a ++ x) (sym o) ∙ sym q2 in
          let e : byte_of (get_or entries k none_yet).1 ≡ length w = omega (arith, came→ (length w) k h (w, v, q, omega arith, (a, d, q2, ha, hd))) in (
            a ++ c,
            z,
            v,
            get_or m.bytes k 0,
            q ∙ ap (λ (x : List ℕ). x ++ v) (sym s) ∙ append_assoc (a ++ c) z v,
            has m.bytes k h,
            hz,
            λ n. ((λ g. omega (arith, came→ n k h g, e, ap length s)), λ g. →came n k h (omega (arith, e, ap length s))),
          )
