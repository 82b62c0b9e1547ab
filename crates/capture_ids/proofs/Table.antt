-- The table says of an id with a slot what the declarations say: no other id has its slot.
use Prim.Native.Nat.{ℕ, ◌+◌, ◌-◌, ◌*◌, ◌/◌, ◌%◌, ◌<◌}
use mathlib.Core.Path.{◌≡◌, refl, sym, ap, ap₂, ◌∙◌}
use mathlib.Core.Bool.{Bool, true, false, cond, ◌&&◌}
use mathlib.Core.List.{List, [], ◌∷◌}
use Rattle.std.specs.Prelude.{Option, Some, None}
use native.Mathlib.Omega.{arith}
use borrow.Author.Tests.{ne_eqb, le-leb, lt-leb, ltb-true}
use borrow.Table.Steps.{cases}
use lib.Dec.{eqb, leb, ltb}
use lib.ListN.{length, get_or, replicate, length-replicate, length-set, get_or-replicate}
use lib.Seq.{get_or-set_same, get_or-set_other}
use Rattle.std.proofs.lemmas.Slice.Eq.{bytes_eq-Decides}
use Rattle.text.specs.Tokens.{same_of}
use Rattle.capture_header.specs.Header.{with_input}
use Rattle.capture_ids.specs.Ids.{Variable, header_of, more_known, noted, look_from, look_of}
use Rattle.capture_ids.specs.Table.{slots, slot_of, inputs_at, known_at, inputs_noted, known_noted, has_slot, look_in}
use Rattle.capture_ids.proofs.Bools.{never, both}

-- ---- the id of a slot

id_of : ℕ → List ℕ
id_of k = cond (eqb k 0) [] (cond (leb k 128) ((k - 1) ∷ []) (((k - 129) / 128) ∷ ((k - 129) % 128) ∷ []))

one : (c : ℕ) → c < 128 → id_of (1 + c) ≡ c ∷ []
unfolding id_of
one c h =
    let e : 1 + c - 1 ≡ c = omega arith in
    rw (ne_eqb (1 + c) 0 (λ q. omega arith), le-leb (1 + c) 128 (omega arith)) (ap (λ n. n ∷ []) e)

two : (c d : ℕ) → d < 128 → id_of (129 + 128 * c + d) ≡ c ∷ d ∷ []
unfolding id_of
two c d h =
    let p : (129 + 128 * c + d - 129) / 128 ≡ c = omega arith in
    let q : (129 + 128 * c + d - 129) % 128 ≡ d = omega arith in
    rw (ne_eqb (129 + 128 * c + d) 0 (λ q. omega arith), lt-leb (129 + 128 * c + d) 128 (omega arith)) (ap₂ (λ n m. n ∷ m ∷ []) p q)

id_of_slot : (x : List ℕ) → slot_of x < slots → id_of (slot_of x) ≡ x
unfolding slot_of id_of
id_of_slot [] h = refl
id_of_slot (c ∷ []) h = by (ltb c 128) refl h
  where
    by : (t : Bool) → ltb c 128 ≡ t → cond t (1 + c) slots < slots → id_of (cond t (1 + c) slots) ≡ c ∷ []
    by true e l = one c (ltb-true c 128 e)
    by false e l = absurd (omega arith)
id_of_slot (c ∷ d ∷ []) h = by (ltb c 128 && ltb d 128) refl h
  where
    by : (t : Bool) → (ltb c 128 && ltb d 128) ≡ t → cond t (129 + 128 * c + d) slots < slots → id_of (cond t (129 + 128 * c + d) slots) ≡ c ∷ d ∷ []
    by true e l = two c d (ltb-true d 128 (both (ltb c 128) (ltb d 128) e).1)
    by false e l = absurd (omega arith)
id_of_slot (c ∷ d ∷ e ∷ x) h = absurd (omega arith)

own_slot : (a x : List ℕ) → slot_of a ≡ slot_of x → slot_of x < slots → a ≡ x
own_slot a x e h = sym (id_of_slot a (rw e h)) ∙ ap id_of e ∙ id_of_slot x h

-- ---- the slot of x, declaration by declaration

abbrev said : Bool → ℕ → Option ℕ
said t inputs = cond t (Some inputs) None

-- Of an id that is not declared no input is noted.
one_more : (t : Bool) (w : ℕ) (input : Option ℕ) → (t ≡ false → w ≡ 0) → Some (with_input w input) ≡ more_known (said t w) input
unfolding more_known
one_more true w input c = refl
one_more false w input c = ap (λ n. Some (with_input n input)) (c refl)

module _ (x : List ℕ) (h : slot_of x < slots) where
  abbrev declared : List ℕ → Bool
  declared known = eqb (get_or known (slot_of x) 0) 1

  -- What a table says of x.
  abbrev told : List ℕ → List ℕ → Option ℕ
  told inputs known = said (declared known) (get_or inputs (slot_of x) 0)

  abbrev Clean : List ℕ → List ℕ → Type 0
  Clean inputs known = declared known ≡ false → get_or inputs (slot_of x) 0 ≡ 0

  module _ (inputs known : List ℕ) (p : length inputs ≡ slots) (q : length known ≡ slots) (clean : Clean inputs known) (v : Variable) where
    abbrev after : List ℕ
    after = inputs_at inputs (slot_of v.id) v.input

    abbrev known_after : List ℕ
    known_after = known_at known (slot_of v.id)

    here : v.id ≡ x → (told after known_after ≡ more_known (told inputs known) v.input) × (declared known_after ≡ true)
    unfolding inputs_at known_at
    here e =
        let a : get_or after (slot_of x) 0 ≡ with_input (get_or inputs (slot_of x) 0) v.input = rw (e, get_or-set_same inputs (slot_of x) _ 0 (rw p h)) in
        let b : declared known_after ≡ true = rw (e, get_or-set_same known (slot_of x) 1 0 (rw q h)) in
        (ap₂ said b a ∙ one_more (declared known) (get_or inputs (slot_of x) 0) v.input clean, b)

    other : (v.id ≡ x → ⊥) → (get_or after (slot_of x) 0 ≡ get_or inputs (slot_of x) 0) × (declared known_after ≡ declared known)
    unfolding inputs_at known_at
    other n =
        let m : (slot_of x ≡ slot_of v.id → ⊥) = λ e. n (own_slot v.id x (sym e) h) in
        (get_or-set_other inputs (slot_of v.id) (slot_of x) _ 0 m, ap (λ k. eqb k 1) (get_or-set_other known (slot_of v.id) (slot_of x) 1 0 m))

    once : (told after known_after ≡ noted x (told inputs known) v) × Clean after known_after
    unfolding noted
    once =
        cases (same_of v.id x)
        (λ e.
        let k = here ((bytes_eq-Decides v.id x).0 e) in
        (rw e k.0, λ z. absurd (never (sym z ∙ k.1))))
        (λ e.
        let k = other (λ z. never (sym e ∙ (bytes_eq-Decides v.id x).1 z)) in
        (rw e (ap₂ said k.1 k.0), λ z. k.0 ∙ clean (sym k.1 ∙ z)))

  all : (vs : List Variable) (inputs known : List ℕ) → length inputs ≡ slots → length known ≡ slots → Clean inputs known → told (inputs_noted inputs vs) (known_noted known vs) ≡ look_from x (told inputs known) vs
  unfolding inputs_noted known_noted look_from inputs_at known_at
  all [] inputs known p q c = refl
  all (v ∷ vs) inputs known p q c =
      let k = once inputs known p q c v in
      all vs (inputs_at inputs (slot_of v.id) v.input) (known_at known (slot_of v.id)) (length-set inputs (slot_of v.id) _ ∙ p) (length-set known (slot_of v.id) 1 ∙ q) k.1
      ∙ ap (λ l. look_from x l vs) k.0

  -- Before the first declaration it says nothing.
  fresh : (◌≡◌ {A = ℕ} (get_or (replicate slots 0) (slot_of x) 0) 0) × (told (replicate slots 0) (replicate slots 0) ≡ None)
  fresh =
      let e : get_or (replicate slots 0) (slot_of x) 0 ≡ 0 = get_or-replicate {A = ℕ} slots (slot_of x) 0 0 h in
      (e, rw e)

-- ---- a table that was empty and has the header's variables

pub table_look : (s x inputs known : List ℕ) → inputs ≡ inputs_noted (replicate slots 0) (header_of s).variables → known ≡ known_noted (replicate slots 0) (header_of s).variables
    → look_in s inputs known x ≡ look_of (header_of s).variables x
unfolding look_in has_slot
table_look s x inputs known p q = by (has_slot inputs known (slot_of x)) refl
  where
    by : (t : Bool) → has_slot inputs known (slot_of x) ≡ t
        → cond t (said (eqb (get_or known (slot_of x) 0) 1) (get_or inputs (slot_of x) 0)) (look_of (header_of s).variables x) ≡ look_of (header_of s).variables x
    by false e = refl
    by true e =
        let h = ltb-true (slot_of x) slots (both (ltb (slot_of x) slots) _ e).0 in
        let f = fresh x h in
        ap₂ (told x h) p q
        ∙ all x h (header_of s).variables (replicate slots 0) (replicate slots 0) (length-replicate {A = ℕ} slots 0) (length-replicate {A = ℕ} slots 0) (λ z. f.0)
        ∙ ap (λ l. look_from x l (header_of s).variables) f.1
