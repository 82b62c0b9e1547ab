-- The forms of a token (R30, R36 and R38 of docs/DECISIONS.md), as states of one automaton that reads bytes. A token has a form if its bytes lead from the
-- form's first state to one of those that are right; where no rule is given, the token is bad and stays so.
--   class_of   what a byte is                      rules   what follows each state
--   next_of    the state after a byte              scan_of  the state after a text
--   id_form, vector_form, real_form, reference_form   the states that are right
use Rattle.std.specs.Prelude.{ℕ, Bool, cond, ◌&&◌, ◌||◌, List, [], ◌∷◌, ◌++◌, map, eqb, leb, get_or}
use Prim.Native.Char.{Char, code}

-- ---- classes of bytes

abbrev within : Char → Char → ℕ → Bool
within low high c = leb (code low) c && leb c (code high)

abbrev is : Char → ℕ → Bool
is a c = eqb c (code a)

abbrev other : ℕ
other = 0

abbrev pub space : ℕ
space = 1

abbrev zero : ℕ
zero = 2

abbrev one : ℕ
one = 3

abbrev digit : ℕ
digit = 4

abbrev level : ℕ
level = 5

abbrev exponent : ℕ
exponent = 6

abbrev letter : ℕ
letter = 7

abbrev dollar : ℕ
dollar = 8

abbrev minus : ℕ
minus = 9

abbrev plus : ℕ
plus = 10

abbrev dot : ℕ
dot = 11

abbrev opening : ℕ
opening = 12

abbrev closing : ℕ
closing = 13

abbrev colon : ℕ
colon = 14

abbrev backslash : ℕ
backslash = 15

abbrev sign : ℕ
sign = 16

-- A sign is any other byte of 33 (`!`) to 126 (`~`); the space stands for the white space that ends a token.
unfoldable pub class_of : ℕ → ℕ
class_of c =
    cond (is " " c) space
    (cond (is "0" c) zero
    (cond (is "1" c) one
    (cond (within "2" "9" c) digit
    (cond (is "x" c || (is "X" c || (is "z" c || is "Z" c))) level
    (cond (is "e" c || is "E" c) exponent
    (cond (within "a" "z" c || (within "A" "Z" c || is "_" c)) letter
    (cond (is "$" c) dollar
    (cond (is "-" c) minus
    (cond (is "+" c) plus
    (cond (is "." c) dot
    (cond (is "[" c) opening
    (cond (is "]" c) closing
    (cond (is ":" c) colon
    (cond (is "\\" c) backslash
    (cond (within "!" "~" c) sign
    other)))))))))))))))

abbrev digits : List ℕ
digits = zero ∷ one ∷ digit ∷ []

abbrev letters : List ℕ
letters = level ∷ exponent ∷ letter ∷ []

abbrev values : List ℕ
values = zero ∷ one ∷ level ∷ []

-- every byte of 33 to 126
abbrev printable : List ℕ
printable = digits ++ letters ++ (dollar ∷ minus ∷ plus ∷ dot ∷ opening ∷ closing ∷ colon ∷ backslash ∷ sign ∷ [])

-- ---- the states

abbrev pub bad : ℕ
bad = 0

-- an id: bytes 33 to 126
abbrev pub id_start : ℕ
id_start = 1

abbrev id : ℕ
id = 2

-- the digits of a vector, after its `b`: 0 1 x X z Z
abbrev pub vector_start : ℕ
vector_start = 3

abbrev vector : ℕ
vector = 4

-- a real number, after its `r`: digits, perhaps a `-` before, a `.` and digits, an e or E with a sign and digits
abbrev pub real_start : ℕ
real_start = 5

abbrev real_minus : ℕ
real_minus = 6

abbrev real_whole : ℕ
real_whole = 7

abbrev real_dot : ℕ
real_dot = 8

abbrev real_fraction : ℕ
real_fraction = 9

abbrev real_e : ℕ
real_e = 10

abbrev real_sign : ℕ
real_sign = 11

abbrev real_exponent : ℕ
real_exponent = 12

-- a reference: an identifier, or a backslash and bytes 33 to 126 up to white space; then perhaps [n] or [n:m] of digits, with or without
-- white space around the parts
abbrev pub reference_start : ℕ
reference_start = 13

abbrev name : ℕ
name = 14

abbrev escape : ℕ
escape = 15

abbrev escaped_name : ℕ
escaped_name = 16

abbrev after_name : ℕ
after_name = 17

abbrev bracket : ℕ
bracket = 18

abbrev index : ℕ
index = 19

abbrev after_index : ℕ
after_index = 20

abbrev to_colon : ℕ
to_colon = 21

abbrev last_index : ℕ
last_index = 22

abbrev after_last : ℕ
after_last = 23

abbrev closed : ℕ
closed = 24

-- ---- the rules: a class and the state after it

pub record Rule : Type 0 where
  pub on : ℕ
  pub to : ℕ

abbrev to : ℕ → List ℕ → List Rule
to state classes = map (λ c. record { on = c; to = state }) classes

-- The rules of each state, in the order of their numbers.
unfoldable pub rules : List (List Rule)
rules =
    -- bad
    []
    -- id_start, id
    ∷ to id printable
    ∷ to id printable
    -- vector_start, vector
    ∷ to vector values
    ∷ to vector values
    -- real_start, real_minus, real_whole
    ∷ (to real_minus (minus ∷ []) ++ to real_whole digits)
    ∷ to real_whole digits
    ∷ (to real_whole digits ++ to real_dot (dot ∷ []) ++ to real_e (exponent ∷ []))
    -- real_dot, real_fraction
    ∷ to real_fraction digits
    ∷ (to real_fraction digits ++ to real_e (exponent ∷ []))
    -- real_e, real_sign, real_exponent
    ∷ (to real_sign (minus ∷ plus ∷ []) ++ to real_exponent digits)
    ∷ to real_exponent digits
    ∷ to real_exponent digits
    -- reference_start
    ∷ (to name letters ++ to escape (backslash ∷ []))
    -- name
    ∷ (to name (letters ++ digits ++ (dollar ∷ [])) ++ to bracket (opening ∷ []) ++ to after_name (space ∷ []))
    -- escape, escaped_name
    ∷ to escaped_name printable
    ∷ (to escaped_name printable ++ to after_name (space ∷ []))
    -- after_name
    ∷ to bracket (opening ∷ [])
    -- bracket, index, after_index
    ∷ (to bracket (space ∷ []) ++ to index digits)
    ∷ (to index digits ++ to after_index (space ∷ []) ++ to to_colon (colon ∷ []) ++ to closed (closing ∷ []))
    ∷ (to to_colon (colon ∷ []) ++ to closed (closing ∷ []))
    -- to_colon, last_index, after_last
    ∷ (to to_colon (space ∷ []) ++ to last_index digits)
    ∷ (to last_index digits ++ to after_last (space ∷ []) ++ to closed (closing ∷ []))
    ∷ to closed (closing ∷ [])
    -- closed
    ∷ to closed (space ∷ [])
    ∷ []

-- The first rule on a class; bad where there is none.
unfoldable pub pick : List Rule → ℕ → ℕ
pick [] c = bad
pick (r ∷ rs) c = cond (eqb c r.on) r.to (pick rs c)

unfoldable pub step_of : ℕ → ℕ → ℕ
step_of state class = pick (get_or rules state []) class

-- The state after a byte.
unfoldable pub next_of : ℕ → ℕ → ℕ
next_of state c = step_of state (class_of c)

-- The state after the bytes of a text.
unfoldable pub scan_of : ℕ → List ℕ → ℕ
scan_of state [] = state
scan_of state (c ∷ s) = scan_of (next_of state c) s

-- ---- the states that are right

abbrev pub id_form : ℕ → Bool
id_form state = eqb state id

abbrev pub vector_form : ℕ → Bool
vector_form state = eqb state vector

abbrev pub real_form : ℕ → Bool
real_form state = eqb state real_whole || (eqb state real_fraction || eqb state real_exponent)

abbrev pub reference_form : ℕ → Bool
reference_form state = eqb state after_name || eqb state closed
