-- Numbers as a script writes them. A character that is no digit has no value, and neither has a text that holds one.
use Rattle.std.specs.Prelude.{ℕ, ◌+◌, ◌-◌, ◌*◌, ◌^◌, Bool, cond, ◌&&◌, List, [], ◌∷◌, length, Some, None, Option, ◌==◌, nat_le, nat_lt}
use Rattle.std.specs.Option.{option_and_then}
use Rattle.lines.specs.declared.digits.Base.{Base}
use Rattle.lines.specs.declared.digits.Base.TheVariants.{Decimal, Hexadecimal}

abbrev pub between : ℕ → ℕ → ℕ → Bool
between low high b = nat_le low b && nat_le b high

-- the value of a character: 0 to 9 in either base
abbrev pub decimal_digit : ℕ → Option ℕ
decimal_digit b = cond (between 48 57 b) (Some (b - 48)) None

-- and a to f in base 16
abbrev pub hexadecimal_digit : ℕ → Option ℕ
hexadecimal_digit b = cond (between 48 57 b) (Some (b - 48)) (cond (between 97 102 b) (Some (b - 87)) None)

abbrev pub radix : Base → ℕ
radix Decimal = 10
radix Hexadecimal = 16

abbrev pub digit : Base → ℕ → Option ℕ
digit Decimal b = decimal_digit b
digit Hexadecimal b = hexadecimal_digit b

-- what goes on with a value, if there is one
abbrev pub then : {X Y : Type 0} → Option X → (X → Option Y) → Option Y
then o f = option_and_then f o

-- the value of a text of digits after a first part of it with the value v
abbrev pub value_after : Base → ℕ → List ℕ → Option ℕ
value_after base v [] = Some v
value_after base v (x ∷ xs) = then (digit base x) (λ d. value_after base (v * radix base + d) xs)

abbrev pub value : Base → List ℕ → Option ℕ
value base xs = value_after base 0 xs

abbrev pub below : ℕ → ℕ → Option ℕ
below limit n = cond (nat_lt n limit) (Some n) None

-- a number has one to ten decimal digits and is below 2 ^ 32
abbrev pub number : List ℕ → Option ℕ
number xs = cond (between 1 10 (length xs)) (then (value Decimal xs) (below (2 ^ 32))) None

-- a word has eight hexadecimal digits
abbrev pub word : List ℕ → Option ℕ
word xs = cond (length xs == 8) (value Hexadecimal xs) None
