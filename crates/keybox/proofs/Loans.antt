-- A box over a lent memory does what a box over the memory itself would do: no call looks at what ties a loan to its lender.
use Rattle.std.proofs.Common.{◌≡◌, ℕ, Bool, cond, eqb, List, [], ◌∷◌, length, take, drop, Ok, arith, refl, ap, ◌∙◌}
use Rattle.std.proofs.lemmas.Bool.{cond_both}
use Rattle.memory.specs.Access.{Seen, accessed}
use Rattle.scheme.specs.declared.profile.Profile.{Profile}
use Rattle.keybox.specs.declared.call.Call.{Call}
use Rattle.keybox.specs.declared.call.Grant.TheVariants.{Done}
use Rattle.keybox.specs.Model.{State, Answer, opened}
use Rattle.keybox.specs.Accesses.{verdict, open_accesses}
use Rattle.keybox.specs.Lent.{Driven, called, drive, newly_opened, lent_words}

-- a memory behind a loan of that name
abbrev pub behind : ℕ → Seen → Seen
behind name m = record { words = m.words; trail = m.trail; rule = m.rule; outside = m.outside; home = name ∷ m.home }

abbrev driven_behind : ℕ → Driven → Driven
driven_behind name t = record { answer = t.answer; box = t.box; memory = behind name t.memory }

-- one loan and one memory
same_loan : (j k : ℕ) (m n : Seen) → behind j m ≡ behind k n → (j ≡ k) × (m ≡ n)
same_loan j k m n e = (grind arith, grind arith)

choose_behind : (name : ℕ) (b : Bool) (t u : Driven) → cond b (driven_behind name t) (driven_behind name u) ≡ driven_behind name (cond b t u)
choose_behind name b t u = grind arith

drive_behind : (name : ℕ) (t : Driven) (cs : List Call) → drive (driven_behind name t) cs ≡ driven_behind name (drive t cs)
drive_behind name t [] = refl
drive_behind name t (c ∷ cs) =
    ap (λ u. cond (eqb (verdict t.answer) 0) u (driven_behind name t)) (drive_behind name (called t c) cs)
    ∙ choose_behind name (eqb (verdict t.answer) 0) (drive (called t c) cs) t

-- A box is opened over the memory m, lent under the name k, and driven by the calls that go with its profile.
-- It begins with the state s and the memory m1; in the end it has answered a, and has the memory m2.
module _ (p : Profile) (u k : ℕ) (m : Seen) (calls : Profile → List Call) (s : State) (k1 : ℕ) (m1 : Seen)
    (state : s ≡ opened p u m.words) (seen : behind k1 m1 ≡ accessed (behind k m) (open_accesses p (length m.words)) s.words) where
  lent_start : record { answer = Ok Done; box = s; memory = behind k1 m1 } ≡ driven_behind k (newly_opened p u m)
  lent_start =
      ap (λ (n : Seen). record { answer = Ok Done; box = s; memory = n }) seen
      ∙ ap (λ (t : State). record { answer = Ok Done; box = t; memory = accessed (behind k m) (open_accesses p (length m.words)) t.words }) state

  pub lent_end : (a : Answer) (s2 : State) (k2 : ℕ) (m2 : Seen)
      → record { answer = a; box = s2; memory = behind k2 m2 } ≡ drive (record { answer = Ok Done; box = s; memory = behind k1 m1 }) (calls s.profile)
      → (a ≡ (drive (newly_opened p u m) (calls p)).answer) × (k2 ≡ k) × (m2 ≡ (drive (newly_opened p u m) (calls p)).memory)
  lent_end a s2 k2 m2 did =
      let end : record { answer = a; box = s2; memory = behind k2 m2 } ≡ driven_behind k (drive (newly_opened p u m) (calls p))
      = did ∙ ap (λ (t : Driven). drive t (calls s.profile)) lent_start ∙ ap (λ (t : State). drive (driven_behind k (newly_opened p u m)) (calls t.profile)) state
      ∙ drive_behind k (newly_opened p u m) (calls p) in
      let home = same_loan k2 k m2 (drive (newly_opened p u m) (calls p)).memory (ap (λ (t : Driven). t.memory) end) in
      (ap (λ (t : Driven). t.answer) end, home.0, home.1)

-- what no address reaches stays
drive_keeps : (t : Driven) (cs : List Call) → (drive t cs).memory.outside ≡ t.memory.outside
drive_keeps t [] = refl
drive_keeps t (c ∷ cs) =
    cond_both (eqb (verdict t.answer) 0) (drive (called t c) cs) t (λ v. v.memory.outside ≡ t.memory.outside) (λ _. drive_keeps (called t c) cs) (λ _. refl)

-- A box is opened over lent words and driven; k names the loan, and in the end the words are vs, behind a loan of the name j.
pub lent_words_end : (p : Profile) (u : ℕ) (ws : List ℕ) (cs : List Call) (j k : ℕ) (vs : List ℕ)
    → behind j (lent_words vs) ≡ (drive (newly_opened p u (behind k (lent_words ws))) cs).memory
    → (j ≡ k) × (take 65536 vs ≡ (drive (newly_opened p u (lent_words ws)) cs).memory.words) × (drop 65536 vs ≡ drop 65536 ws)
lent_words_end p u ws cs j k vs seen =
    let t = newly_opened p u (lent_words ws) in
    let home = same_loan j k (lent_words vs) (drive t cs).memory (seen ∙ ap (λ (v : Driven). v.memory) (drive_behind k t cs)) in
    (home.0, ap (λ (m : Seen). m.words) home.1, ap (λ (m : Seen). m.outside) home.1 ∙ drive_keeps t cs)

pub lent_words_answer : (p : Profile) (u : ℕ) (ws : List ℕ) (cs : List Call) (k : ℕ)
    → (drive (newly_opened p u (behind k (lent_words ws))) cs).answer ≡ (drive (newly_opened p u (lent_words ws)) cs).answer
lent_words_answer p u ws cs k = ap (λ (v : Driven). v.answer) (drive_behind k (newly_opened p u (lent_words ws)) cs)
