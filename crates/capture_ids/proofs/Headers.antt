-- A header from a state on: where it ends, and a token of it; what a declaration that has ended adds.
use Prim.Native.Nat.{ℕ, ◌-◌}
use mathlib.Core.Path.{◌≡◌, refl, sym, ap, ap₂, ◌∙◌}
use mathlib.Core.Bool.{true, false}
use mathlib.Core.List.{List, [], ◌∷◌}
use Rattle.std.specs.Prelude.{Option}
use native.Mathlib.Omega.{arith}
use borrow.Table.Steps.{cases}
use lib.ListN.{length, take, drop}
use Rattle.text.specs.declared.Span.{Span}
use Rattle.capture_tokens.specs.Tokens.{token, tokens_from}
use Rattle.capture_tokens.proofs.Tokens.{Found, past_the_end}
use Rattle.capture_header.specs.declared.Head.{Head}
use Rattle.capture_header.specs.Header.{head_next, ends, begins}
use Rattle.capture_ids.specs.declared.Headed.{Headed}
use Rattle.capture_ids.specs.declared.Past.TheVariants.{Ended, Next}
use Rattle.capture_ids.specs.Ids.{Variable, Header, header_from, header_of, headed_of, added, look_from, place_of}
use Rattle.capture_ids.specs.Table.{inputs_noted, known_noted}
use Rattle.capture_ids.specs.Private.{left, Stops, Goes, Passed}

-- ---- the header from a state on, by its next token

module _ (s : List ℕ) (h : Head) (at : ℕ) where
  pub at_end : tokens_from s at ≡ [] → Passed s h at (Ended (length s))
  unfolding header_from place_of
  at_end e =
      let n : tokens_from s (length s) ≡ [] = past_the_end s (length s) (omega arith) in
      record { whole = rw (e, n); place = rw n }

  module _ (t : Span) (f : Found s at t) where
    abbrev text : List ℕ
    text = take (t.end - t.start) (drop t.start s)

    pub before_it : begins h.field text ≡ true → Passed s h at (Ended t.start)
    unfolding header_from place_of
    before_it b = record { whole = rw (f.again, f.first, b); place = rw (f.again, f.first) }

    pub past_it : begins h.field text ≡ false → (k : Head) → k ≡ head_next h (token t.start text) → Passed s h at (Next k t.end)
    unfolding header_from
    past_it b k q = record { whole = rw (f.first, b, q); further = f.further; inside = f.inside }

-- ---- a fold over the variables, one declaration after the other

module _ {A : Type 0} (fold : A → List Variable → A) (none : (a : A) → fold a [] ≡ a) (one : (a : A) (v : Variable) (vs : List Variable) → fold a (v ∷ vs) ≡ fold (fold a (v ∷ [])) vs) where
  more : (s : List ℕ) (h k : Head) (a : A) (vs : List Variable) → fold a (added s h k vs) ≡ fold (fold a (added s h k [])) vs
  more s h k a vs = cases (ends h.field k.field) (λ e. rw e (one a _ vs)) (λ e. rw (e, none a))

  -- What is folded so far, with the rest of the header, is the whole: at the header's end, and past one of its tokens.
  module _ (s : List ℕ) (a : A) (h : Head) (at : ℕ) (whole : A) (inv : fold a (left s h at).variables ≡ whole) where
    pub fold_stops : (n : ℕ) → Stops s h at n → a ≡ whole
    fold_stops n e = sym (ap (λ (r : Header). fold a r.variables) e.whole ∙ none a) ∙ inv

    pub fold_goes : (k : Head) (n : ℕ) → Goes s h at k n → (b : A) → b ≡ fold a (added s h k []) → fold b (left s k n).variables ≡ whole
    fold_goes k n e b p =
        ap (λ (z : A). fold z (left s k n).variables) p
        ∙ sym (more s h k a (left s k n).variables)
        ∙ sym (ap (λ (r : Header). fold a r.variables) e.whole)
        ∙ inv

-- ---- the header's end

abbrev pub headed : Head → ℕ → Headed
headed h n = record { head = h; at = n }

module _ (s : List ℕ) (h : Head) (at : ℕ) (end : (left s h at).head ≡ (header_of s).head) (rest : (left s h at).rest ≡ (header_of s).rest) where
  pub headed_stops : (n : ℕ) → Stops s h at n → (headed h n ≡ headed_of s) × (tokens_from s n ≡ (header_of s).rest)
  headed_stops n e =
      let p : h ≡ (header_of s).head = sym (ap (λ (r : Header). r.head) e.whole) ∙ end in
      let q : tokens_from s n ≡ (header_of s).rest = sym (ap (λ (r : Header). r.rest) e.whole) ∙ rest in
      (ap₂ headed p (e.place ∙ ap (place_of s) q), q)

  pub headed_goes : (k : Head) (n : ℕ) → Goes s h at k n → ((left s k n).head ≡ (header_of s).head) × ((left s k n).rest ≡ (header_of s).rest)
  headed_goes k n e = (sym (ap (λ (r : Header). r.head) e.whole) ∙ end, sym (ap (λ (r : Header). r.rest) e.whole) ∙ rest)

-- ---- the three folds

module _ (x : List ℕ) where
  pub look_none : (l : Option ℕ) → look_from x l [] ≡ l
  unfolding look_from
  look_none l = refl

  pub look_one : (l : Option ℕ) (v : Variable) (vs : List Variable) → look_from x l (v ∷ vs) ≡ look_from x (look_from x l (v ∷ [])) vs
  unfolding look_from
  look_one l v vs = refl

pub inputs_none : (l : List ℕ) → inputs_noted l [] ≡ l
unfolding inputs_noted
inputs_none l = refl

pub inputs_one : (l : List ℕ) (v : Variable) (vs : List Variable) → inputs_noted l (v ∷ vs) ≡ inputs_noted (inputs_noted l (v ∷ [])) vs
unfolding inputs_noted
inputs_one l v vs = refl

pub known_none : (l : List ℕ) → known_noted l [] ≡ l
unfolding known_noted
known_none l = refl

pub known_one : (l : List ℕ) (v : Variable) (vs : List Variable) → known_noted l (v ∷ vs) ≡ known_noted (known_noted l (v ∷ [])) vs
unfolding known_noted
known_one l v vs = refl

-- ---- a header that is being read into two tables: from here on it ends as the whole does, and each table so far, with what the rest declares, is that of the whole

module _ (s : List ℕ) (inputs₀ known₀ : List ℕ) where
  pub record Indexes (h : Head) (at : ℕ) (inputs known : List ℕ) : Type 0 where
    pub head : (left s h at).head ≡ (header_of s).head
    pub rest : (left s h at).rest ≡ (header_of s).rest
    pub inputs_so_far : inputs_noted inputs (left s h at).variables ≡ inputs_noted inputs₀ (header_of s).variables
    pub known_so_far : known_noted known (left s h at).variables ≡ known_noted known₀ (header_of s).variables

  module _ {h : Head} {at : ℕ} {inputs known : List ℕ} (i : Indexes h at inputs known) where
    pub indexes_more : (k : Head) (n : ℕ) → Goes s h at k n → (a b : List ℕ) → a ≡ inputs_noted inputs (added s h k []) → b ≡ known_noted known (added s h k []) → Indexes k n a b
    indexes_more k n e a b p q =
        let g = headed_goes s h at i.head i.rest k n e in
        record {
          head = g.0;
          rest = g.1;
          inputs_so_far = fold_goes inputs_noted inputs_none inputs_one s inputs h at _ i.inputs_so_far k n e a p;
          known_so_far = fold_goes known_noted known_none known_one s known h at _ i.known_so_far k n e b q;
        }

    pub inputs_indexed : (n : ℕ) → Stops s h at n → inputs ≡ inputs_noted inputs₀ (header_of s).variables
    inputs_indexed n e = fold_stops inputs_noted inputs_none inputs_one s inputs h at _ i.inputs_so_far n e

    pub known_indexed : (n : ℕ) → Stops s h at n → known ≡ known_noted known₀ (header_of s).variables
    known_indexed n e = fold_stops known_noted known_none known_one s known h at _ i.known_so_far n e
