-- What a session prints are the replies to the lines of its input: a line is answered where it comes, and the first 121 bytes of a line are enough.
use Rattle.std.proofs.Common.{◌≡◌, ℕ, ◌+◌, ◌<◌, ◌≤◌, Bool, true, eqb, ltb, List, [], ◌∷◌, ◌++◌, length, take, Some, None, Option, sym, refl, ap, ◌∙◌, ⊎_elim, arith, length-take}
use Rattle.std.specs.Option.{option_to_list}
use Rattle.std.proofs.lemmas.List.{take_all}
use Rattle.std.proofs.lemmas.Bool.{cases_lt, lt-ltb}
use Rattle.memory.specs.Access.{Seen}
use Rattle.lines.specs.Commands.{meaning}
use Rattle.lines.specs.Splitting.{lines}
use Rattle.lines.specs.Feeding.{Numbered, Cut, pushed, closed, start, brought, numbered_from}
use Rattle.script.specs.Printing.{printed}
use Rattle.script.specs.Sessions.{Desk, waiting, works, works_off}
use Rattle.script.specs.Talking.{replied, output, replies, TalksAs}
use Rattle.lines.proofs.Coming.{comes_to_its_lines}

-- the replies to some numbered lines
abbrev answers : (List ℕ → ℕ) → Desk → List Numbered → List (List ℕ)
answers told desk [] = []
answers told desk (l ∷ ls) = printed l.number (works told desk l).answer ∷ answers told (works told desk l).after ls

at_end : (told : List ℕ → ℕ) (desk : Desk) (o : Option Numbered) (cut : Cut) → option_to_list (replied told desk o cut).reply ≡ answers told desk (option_to_list o)
at_end told desk None cut = refl
at_end told desk (Some l) cut = refl

-- a line that comes is answered, and what comes after it is answered then
one_more : (told : List ℕ → ℕ) (desk : Desk) (o : Option Numbered) (cut : Cut) (bs : List ℕ)
    → ((d : Desk) → output told (record { cut = cut; desk = d }) bs ≡ answers told d (brought cut bs))
    → option_to_list (replied told desk o cut).reply ++ output told (replied told desk o cut).after bs ≡ answers told desk (option_to_list o ++ brought cut bs)
one_more told desk None cut bs h = h desk
one_more told desk (Some l) cut bs h = ap (λ rs. printed l.number (works told desk l).answer ∷ rs) (h (works told desk l).after)

prints : (told : List ℕ → ℕ) (cut : Cut) (desk : Desk) (bs : List ℕ) → output told (record { cut = cut; desk = desk }) bs ≡ answers told desk (brought cut bs)
prints told cut desk [] = at_end told desk (closed cut).line (closed cut).after
prints told cut desk (b ∷ bs) = one_more told desk (pushed cut b).line (pushed cut b).after bs (λ d. prints told (pushed cut b).after d bs)

-- a line of more than 120 bytes is malformed, and so are its first 121
long_none : (first : Bool) (xs : List ℕ) → 120 < length xs → meaning first xs ≡ None
long_none first [] h = absurd (omega arith)
long_none first (x ∷ xs) h = let e : ltb 120 (length (x ∷ xs)) ≡ true = lt-ltb 120 (length (x ∷ xs)) h in simp e

enough : (first : Bool) (xs : List ℕ) → meaning first (take 121 xs) ≡ meaning first xs
enough first xs =
    ⊎_elim
    (λ (h : length xs < 121). ap (meaning first) (take_all 121 xs (omega arith)))
    (λ (h : 121 ≤ length xs). long_none first (take 121 xs) (simp length-take (omega arith)) ∙ sym (long_none first xs (omega arith)))
    (cases_lt (length xs) 121)

numbered : (told : List ℕ → ℕ) (desk : Desk) (n : ℕ) (ls : List (List ℕ)) → answers told desk (numbered_from n ls) ≡ replies told desk n ls
numbered told desk n [] = refl
numbered told desk n (l ∷ ls) =
    let e = enough (eqb n 1) l in
    ap (λ o. printed n (works_off told desk o).answer ∷ answers told (works_off told desk o).after (numbered_from (n + 1) ls)) e
    ∙ ap (λ rs. printed n (works_off told desk (meaning (eqb n 1) l)).answer ∷ rs) (numbered told (works_off told desk (meaning (eqb n 1) l)).after (n + 1) ls)

pub talks_as : (told : List ℕ → ℕ) (m : Seen) → TalksAs told m
talks_as told m input =
    prints told start (waiting m) input ∙ ap (answers told (waiting m)) (comes_to_its_lines input) ∙ numbered told (waiting m) 1 (lines input)
