-- A line of a step script as a list of numbers, and its step. Value 0 is the number of the line's form, and value i is the number at word i,
-- where words are counted from 0: a register's name counts by its number. A form has the number of its kind of step (crates/numbered); the second
-- forms of kinds 4, 5 and 7 come behind.
--   forms   the step of each form     line_step   the step of a line     line_steps   those of a block's lines
--   form_number, FormNames   the number of a form; the form of a number, or that no form has it
use Rattle.std.specs.Prelude.{ℕ, ◌≡◌, ◌<◌, List, [], ◌∷◌, map, get_or, take, Option, None, Result, MatchResult}
use Rattle.access.specs.Table.{Row, lookup, row}
use Rattle.steps.specs.declared.Step.{Step}
use Rattle.steps.specs.declared.Step.TheVariants.{Reset}
use Rattle.numbered.specs.Numbered.{known_or, step_at}
use Rattle.script.specs.declared.form.Form.{Form}
use Rattle.script.specs.declared.form.Form.TheVariants as form
use Rattle.script.specs.declared.form.UnknownForm.{UnknownForm}

-- `at i` is the number at word i; `step_at` takes the kind, the unit, the place, the width and the value
unfoldable pub forms : (ℕ → ℕ) → List (Row (Option Step))
forms at =
    row 0 (step_at 0 0 (at 2) (at 3) 0)  -- bus read ADDRESS WIDTH
    ∷ row 1 (step_at 1 0 (at 2) (at 3) (at 4))  -- bus write ADDRESS WIDTH VALUE
    ∷ row 2 (step_at 2 (at 1) (at 3) (at 4) 0)  -- core C read OFFSET WIDTH
    ∷ row 3 (step_at 3 (at 1) (at 3) (at 4) (at 5))  -- core C write OFFSET WIDTH VALUE
    ∷ row 4 (step_at 4 (at 2) 0 0 0)  -- bridge read NAME
    ∷ row 5 (step_at 5 (at 2) 0 0 (at 3))  -- bridge write NAME VALUE
    ∷ row 6 (step_at 6 0 (at 1) 0 (at 2))  -- input SOURCE LEVEL
    ∷ row 7 (step_at 7 0 0 0 1)  -- window open
    ∷ row 8 (step_at 8 0 0 0 0)  -- reset
    ∷ row 9 (step_at 9 0 (at 2) 0 (at 3))  -- node input SOURCE LEVEL
    ∷ row 10 (step_at 10 0 (at 1) 0 0)  -- which CHIP
    ∷ row 11 (step_at 4 (at 2) (at 3) 0 0)  -- bridge read NAME SOURCE
    ∷ row 12 (step_at 5 (at 2) (at 3) 0 (at 4))  -- bridge write NAME SOURCE VALUE
    ∷ row 13 (step_at 7 0 0 0 0)  -- window closed
    ∷ []

-- of a line's values, by the number of its form
unfoldable pub step_in : List ℕ → ℕ → Option Step
step_in v number = lookup None (forms (λ i. get_or v i 0)) number

abbrev pub form_step : List ℕ → Option Step
form_step v = step_in v (get_or v 0 0)

-- a line that is unknown, by its form or by a number on it, is a reset
unfoldable pub line_step : List ℕ → Step
line_step v = known_or Reset (form_step v)

-- the steps of the first n lines
unfoldable pub line_steps : ℕ → List (List ℕ) → List Step
line_steps n lines = map line_step (take n lines)

-- ---- the forms by themselves

-- as `forms` counts them
abbrev pub form_number : Form → ℕ
form_number form.BusRead = 0
form_number form.BusWrite = 1
form_number form.PrivateRead = 2
form_number form.PrivateWrite = 3
form_number form.BridgeRead = 4
form_number form.BridgeWrite = 5
form_number form.Input = 6
form_number form.WindowOpen = 7
form_number form.Reset = 8
form_number form.NodeInput = 9
form_number form.Which = 10
form_number form.SourceRead = 11
form_number form.SourceWrite = 12
form_number form.WindowClosed = 13

-- the form that has the number, or the number where no form has it
abbrev pub FormNames : ℕ → Result Form UnknownForm → Type 0
FormNames number r = MatchResult r (λ form. form_number form ≡ number) (λ unknown. (unknown.0 ≡ number) × (13 < number))
