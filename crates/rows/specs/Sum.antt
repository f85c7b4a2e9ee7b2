-- Sums of rotated rows: one row rotated for each position, and added lane by lane.
use Rattle.std.specs.Prelude.{◌≡◌, ℕ, ◌+◌, ◌-◌, ◌*◌, ◌%◌, ◌≤◌, false, cond, List, [], ◌∷◌, ◌++◌, map, length, fold, nat_lt, slice_index}
use Rattle.memory.specs.Access.{Access, get}
use Rattle.memory.specs.Words.{over, zeros, Apart}
use Rattle.rows.specs.declared.plan.Direction.{Direction}
use Rattle.rows.specs.declared.plan.Direction.TheVariants.{Up, Down}
use Rattle.rows.specs.declared.plan.Source.{Source}
use Rattle.rows.specs.declared.plan.Source.TheVariants.{One, Either}
use Rattle.rows.specs.declared.plan.Plan.{Plan}
use Rattle.rows.specs.Rows.{Row, rotated, cut, row_at, width, has_tail}
use Rattle.rows.specs.Masks.{chosen}
use Rattle.rows.specs.Lane.{lane, planes, add_accesses}
use Rattle.rows.specs.Fill.{part, looped, zero_accesses, pick_accesses}
use Rattle.rows.specs.Turn.{rotate_accesses}

-- a word as a position. Every word that a box reads as one was checked before, so this is the word itself; any other would count as 0
abbrev pub as_position : ℕ → ℕ → ℕ
as_position r w = cond (nat_lt w r) w 0

-- a position below r is a bit of the first half, and r more one of the second: its half and its place there
abbrev pub half : ℕ → ℕ → ℕ
half r q = cond (nat_lt q r) 0 1

abbrev pub index : ℕ → ℕ → ℕ
index r q = cond (nat_lt q r) q (q - r)

-- by how much a position rotates
abbrev pub turn : ℕ → Direction → ℕ → ℕ
turn r Up p = p
turn r Down p = (r - p) % r

-- the row that a position adds, of the rows that lie in the words
abbrev pub added : ℕ → Direction → Source → List ℕ → ℕ → Row
added r way (One a) ws q = cut r (rotated r (turn r way (as_position r q)) (row_at ws a))
added r way (Either a b) ws q = cut r (rotated r (turn r way (as_position r (index r q))) (cond (nat_lt q r) (row_at ws a) (row_at ws b)))

-- the number in a lane once rows were added to it
abbrev pub summed : (ℕ → ℕ → ℕ) → ℕ → List Row → ℕ → ℕ
summed add n xs j = fold (λ (m : ℕ) (x : Row). add m (x j)) n xs

-- how many rows of room a sum needs: two to rotate in, and one more where it chooses between two rows
abbrev pub room : Source → ℕ
room (One a) = 2
room (Either a b) = 3

-- the words after a sum: the planes at `into` hold the numbers with all rows added, and the room at `scratch` is zero
abbrev pub sum_words : (ℕ → ℕ → ℕ) → ℕ → Plan → List ℕ → List ℕ
sum_words add depth p ws =
    zeros (over ws p.into (planes (width p.r) (λ j. summed add (lane ws p.into (width p.r) depth j) (map (added p.r p.direction p.source ws) (part ws p.at p.count)) j) depth))
    p.scratch (room p.source * width p.r)

-- the words once the row of position i was added, and the words but for the room, whatever lies there
abbrev pub step_words : (ℕ → ℕ → ℕ) → ℕ → Plan → ℕ → List ℕ → List ℕ
step_words add depth p i ws =
    over ws p.into (planes (width p.r) (λ j. add (lane ws p.into (width p.r) depth j) (added p.r p.direction p.source ws (slice_index ws (p.at + i)) j)) depth)

abbrev pub but_room : Plan → List ℕ → List ℕ
but_room p ws = zeros ws p.scratch (room p.source * width p.r)

-- where the row lies that is rotated: a row chosen between two lies in the third row of the room
abbrev pub chosen_at : ℕ → Source → ℕ → ℕ
chosen_at r (One a) scratch = a
chosen_at r (Either a b) scratch = scratch + 2 * width r

-- the words once a position has chosen its row
abbrev pub chosen_words : ℕ → Source → ℕ → ℕ → List ℕ → List ℕ
chosen_words r (One a) scratch q ws = ws
chosen_words r (Either a b) scratch q ws = over ws (scratch + 2 * width r) (part ws (chosen (half r q) b a) (width r))

-- the position in its half
abbrev pub position_in : ℕ → Source → ℕ → ℕ
position_in r (One a) q = as_position r q
position_in r (Either a b) q = as_position r (index r q)

-- the choice of a row, if there is one
abbrev pub choice_accesses : ℕ → Source → ℕ → List Access
choice_accesses r (One a) scratch = []
choice_accesses r (Either a b) scratch = pick_accesses a b (scratch + 2 * width r) (width r)

-- one position: its word, the row chosen, the row rotated, the rotated row added
unfoldable pub step_accesses : ℕ → Plan → ℕ → List Access
step_accesses depth p i =
    get (p.at + i)
    ∷ (choice_accesses p.r p.source p.scratch
    ++ (rotate_accesses p.r (chosen_at p.r p.source p.scratch) p.scratch
    ++ add_accesses p.scratch p.into (width p.r) depth))

-- a whole sum: all positions, and the room zeroed
unfoldable pub sum_accesses : ℕ → Plan → List Access
sum_accesses depth p = looped (step_accesses depth p) p.count ++ zero_accesses p.scratch (room p.source * width p.r)

-- a row lies in the words, apart from n places at b, and has no bit past its end
abbrev pub RowApart : ℕ → ℕ → List ℕ → ℕ → ℕ → Type 0
RowApart r a ws b n = (a + width r ≤ length ws) × Apart a (width r) b n × (has_tail r ws a ≡ false)

abbrev pub RowsApart : ℕ → Source → List ℕ → ℕ → ℕ → Type 0
RowsApart r (One a) ws b n = RowApart r a ws b n
RowsApart r (Either a c) ws b n = RowApart r a ws b n × RowApart r c ws b n

-- the positions, the rows, the result and the room of a sum lie in the words and apart from each other, and there is a position
pub record Fits (depth : ℕ) (p : Plan) (ws : List ℕ) : Type 0 where
  pub long : 2 ≤ p.r
  pub some : 1 ≤ p.count
  pub positions : p.at + p.count ≤ length ws
  pub result : p.into + depth * width p.r ≤ length ws
  pub space : p.scratch + room p.source * width p.r ≤ length ws
  pub positions_result : Apart p.at p.count p.into (depth * width p.r)
  pub positions_space : Apart p.at p.count p.scratch (room p.source * width p.r)
  pub result_space : Apart p.into (depth * width p.r) p.scratch (room p.source * width p.r)
  pub rows_result : RowsApart p.r p.source ws p.into (depth * width p.r)
  pub rows_space : RowsApart p.r p.source ws p.scratch (room p.source * width p.r)
