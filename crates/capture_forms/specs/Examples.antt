-- The definitions compute.
use Rattle.std.specs.Prelude.{◌≡◌, refl, true, false, [], ◌∷◌, map}
use Rattle.text.specs.Ascii.{ascii}
use Rattle.capture_forms.specs.Forms.{class_of, rules, pick, step_of, next_of, scan_of, real_start, real_form, reference_start, reference_form, id_start, id_form}

reals : map (λ t. real_form (scan_of real_start t)) (ascii "-0.25e-7" ∷ ascii "12" ∷ ascii "1." ∷ ascii ".5" ∷ ascii "1e" ∷ []) ≡ true ∷ true ∷ false ∷ false ∷ false ∷ []
unfolding class_of rules pick step_of next_of scan_of
reals = refl

references : map (λ t. reference_form (scan_of reference_start t)) (ascii "in0 " ∷ ascii "a[3:0] " ∷ ascii "a [ 3 : 0 ] " ∷ ascii "\\+$ " ∷ ascii "a[] " ∷ ascii "3a " ∷ ascii "a b " ∷ []) ≡ true ∷ true ∷ true ∷ true ∷ false ∷ false ∷ false ∷ []
unfolding class_of rules pick step_of next_of scan_of
references = refl

ids : map (λ t. id_form (scan_of id_start t)) (ascii "!" ∷ ascii "#5" ∷ ascii "~\u{7f}" ∷ []) ≡ true ∷ true ∷ false ∷ []
unfolding class_of rules pick step_of next_of scan_of
ids = refl
