-- A text read up to its semicolon: the laws that cuts rest on, and its parts where it is written as the grammar says.
use Rattle.std.specs.Prelude.{◌≡◌, refl, ℕ, suc, ◌≤◌, true, List, [], ◌∷◌, ◌++◌, length}
use Rattle.std.proofs.Common.{sym, ap, ◌∙◌, arith, length-append}
use Rattle.text.specs.declared.TextLocation.{TextLocation}
use Rattle.text.specs.Place.{byte_of, start, past}
use Rattle.text.specs.Reader.{ok, end_byte, ◌>>=◌, ◌>>◌, Local, Firm}
use Rattle.text.proofs.Reader.{ahead, bind-local, bind-firm}
use Rattle.text.specs.Leaf.{give}
use Rattle.text.proofs.Leaf.{give-local, give-firm}
use Rattle.header.specs.Header.{Head, header}
use Rattle.header.proofs.Header.{header-local, header-firm}
use Rattle.body.specs.Data.{items, closing, tail, bytes_of}
use Rattle.body.proofs.Data.{items-local, items-firm, closing-local, closing-firm}
use Rattle.grammar.specs.Grammar.{Mask, Format}
use Rattle.grammar.proofs.Bind.{bind-case, bind_ok, past-byte}
use Rattle.grammar.proofs.Fits.{Any}
use Rattle.grammar.specs.Devices.{head_of, made, body, front, text}
use Rattle.grammar.proofs.Exact.{start-rest, front_fits, exactly}
use Rattle.claims.proofs.Numbers.{in_header, Numbered, wider, bind-numbered, give-numbered, header-numbered, items-numbered, closing-numbered}
use Rattle.claims.proofs.Semicolon.{Closed, closed}

-- ---- the laws

body-local : (h : Head) → Local (body h)
unfolding body
body-local h = search (bind-local, items-local, closing-local, give-local)

body-firm : (h : Head) → Firm (body h)
unfolding body
body-firm h = search (bind-firm, bind-local, items-local, items-firm, closing-local, closing-firm, give-local, give-firm) depth 8

body-numbered : (h : Head) → Numbered 1 7 in_header (body h)
unfolding body
body-numbered h = bind-numbered (items-numbered _ true refl) (λ l. bind-numbered (closing-numbered refl) (λ a. give-numbered l))

module _ (lim : ℕ) where
  pub front-local : Local (front lim)
  unfolding front
  front-local = search (bind-local, header-local, body-local, give-local)

  pub front-firm : Firm (front lim)
  unfolding front
  front-firm = search (bind-firm, bind-local, header-local, body-local, give-local, header-firm, body-firm, give-firm)

  pub front-numbered : Numbered 1 7 in_header (front lim)
  unfolding front
  front-numbered = bind-numbered (wider (header-numbered lim) 1 7 (omega arith) (omega arith)) (λ h. bind-numbered (body-numbered h) (λ l. give-numbered (made h l)))

-- ---- the parts

-- the places after the header, after the last data byte, after the semicolon
pub record Parts (lim : ℕ) (t : List ℕ) (m : Mask) (done : TextLocation) : Type 0 where
  pub from : TextLocation
  pub to : TextLocation
  pub head : header lim t start ≡ ok (head_of m) from
  pub run : items (bytes_of m.width m.height) true t from ≡ ok m.bytes to
  pub close : closing t to ≡ ok tt done
  pub before : byte_of to ≤ byte_of done

apart : (lim : ℕ) (t : List ℕ) (m : Mask) (done : TextLocation) → front lim t start ≡ ok m done → Parts lim t m done
unfolding front body give
apart lim t m done q =
    bind-case (header lim) _ t start q (λ h k u v. bind-case (items (bytes_of h.width h.height) true >>= λ l. closing >> give l) _ t k v (λ l b x y. bind-case (items (bytes_of h.width h.height) true) _ t k x (λ l2 r z w.
    bind-case closing _ t r w (λ a j o p. fin h k l l2 r j u z o (cc) (cc) (cc)))))
  where
    fin : (h : Head) (k : TextLocation) (l l2 : List ℕ) (r j : TextLocation) → header lim t start ≡ ok h k → items (bytes_of h.width h.height) true t k ≡ ok l2 r → closing t r ≡ ok tt j → l2 ≡ l → made h l ≡ m → j ≡ done
        → Parts lim t m done
    fin h k l l2 r j u z o e f g =
        let x : h ≡ head_of m = ap head_of f in
        let y : l2 ≡ m.bytes = e ∙ ap (λ (n : Mask). n.bytes) f in
        record {
          from = k;
          to = r;
          head = u ∙ ap (λ (h : Head). ok h k) x;
          run = rw (x, y) at z;
          close = o ∙ ap (λ (n : TextLocation). ok tt n) g;
          before = omega (arith, ahead closing-local t r, ap end_byte o, ap byte_of g);
        }

module _ (lim : ℕ) (t : List ℕ) (m : Mask) (f : Format lim m t) where
  pub end : Closed lim t m
  end = closed lim t m f

  -- where the last semicolon stands, and the place after it
  abbrev pub semi : ℕ
  semi = length end.fore

  abbrev pub done : TextLocation
  done = past start (end.fore ++ 59 ∷ [])

  pub done-byte : byte_of done ≡ suc semi
  done-byte = past-byte start (end.fore ++ 59 ∷ []) ∙ omega (arith, length-append end.fore (59 ∷ []))

  pub fronted : front lim t start ≡ ok m done
  unfolding Any
  fronted = (front_fits lim m).from t start (end.fore ++ 59 ∷ []) end.tail end.whole (start-rest t ∙ end.split) end.word tt

  pub parts : Parts lim t m done
  parts = apart lim t m done fronted

  pub tailed : (e : TextLocation) × (tail t done ≡ ok tt e)
  unfolding text
  tailed = let (e, q) = (exactly lim m t).1 f in bind-case tail (λ a. give m) t done (sym (bind_ok (front lim) (λ g. tail >> give g) t start m done fronted) ∙ q) (λ a k u v. (k, u))
