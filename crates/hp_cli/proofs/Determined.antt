-- The answers of an input exclude one another: each has a cause that the others lack.
use Rattle.std.proofs.Common.{◌≡◌, ◌≢◌, ◌⊎◌, inl, inr, ℕ, List, [], ◌∷◌, ◌++◌, None, Some, Result, Ok, Err, true, false, ◌≤◌, length, refl, sym, ap, subst, ◌∙◌, arith}
use Rattle.std.specs.declared.option.Option.{Option}
use Rattle.std.specs.List.{All}
use Rattle.std.proofs.lemmas.List.Elements.{All-head, All-tail}
use Rattle.hp_ast.specs.Printing.{problem_text}
use Rattle.hp_tree.specs.declared.limit.Limit.{Limit as limit}
use Rattle.hp_tree.specs.declared.problem.Problem.{Problem}
use Rattle.hp_faults.proofs.Faults.{one_fault}
use Rattle.hp_read.proofs.BytesLaws.{no_fault, one_problem}
use Rattle.hp_sorts.specs.Faults.{sort_fault}
use Rattle.hp_sorts.specs.Limits.{passed}
use Rattle.hp_defs.specs.Names.{count}
use Rattle.hp_pairs.specs.declared.answer.Outside.{Outside as outside}
use Rattle.hp_pairs.specs.declared.answer.PairStrain.{PairStrain}
use Rattle.hp_pairs.specs.Answers.{IsFirst, IsMet, IsStrainedPair, IsUnmet}
use Rattle.hp_pairs.specs.Branches.{Pair}
use Rattle.hp_pairs.specs.Text.{outside_text}
use Rattle.hp_waiting.specs.Waiting.{is_waiting}
use Rattle.hp_rules.specs.Rules.{rule_words}
use Rattle.hp_groups.specs.Groups.{groups_made}
use Rattle.hp_chain.specs.declared.answer.ChainErr.{ChainErr}
use Rattle.hp_chain.specs.declared.answer.ChainErr.TheVariants as refusal
use Rattle.hp_chain.specs.Ground.{IsFirstMet, IsReadAs, IsStrained, Read, alone, chain_of, making, naming, paired, pairs_of, read_of}
use Rattle.hp_tree.specs.Limits.{most_bytes}
use Rattle.hp_cli.specs.declared.answer.Status.{Status}
use Rattle.hp_cli.specs.declared.answer.Status.TheVariants.{Spelling, Sort, Outside, Limit, Overflow, Sat, Spent, NotBuilt, Unsat}
use Rattle.hp_cli.specs.declared.words.Task.{Task}
use Rattle.hp_cli.specs.declared.words.Task.TheVariants.{Solve, Print}
use Rattle.hp_cli.specs.Answer.{Answers, Does}
use Rattle.hp_cli.specs.Answer as answers
use Rattle.hp_cli.specs.Laws.{HasPairs, IsDetermined, IsSamePair, OneAnswer, OnlyAnswer}
use Rattle.hp_cli.specs.Refusals.{limit_text, sort_text, spelling_text}
use Rattle.hp_cli.specs.Verdicts.{InScope, IsBuilt, IsCounted, IsRead, IsSorted, Limited, Missorted, Misspelled, OtherForm, Printed, TooLong, TooMany, Unruly}
use Rattle.hp_cli.specs.Words.{Asks}
use Rattle.hp_cli.proofs.Readings.{ground_limited, ground_unruly, none_met, one_reading, one_way, read_is}
use Rattle.hp_cli.proofs.Settled.{printing_solves}

some_same : {A : Type 0} (x y : A) → ◌≡◌ {A = Option A} (Some x) (Some y) → x ≡ y
some_same x y e = cc

-- ---- the first pair that is met
no_front : (x : Pair) (xs ys : List Pair) (y : Pair) → x ∷ xs ≡ y ∷ ys → (x ≡ y) × (xs ≡ ys)
no_front x xs ys y e = (cc, cc)

one_first : (bs cs ds es : List Pair) (p q : Pair) → bs ++ p ∷ ds ≡ cs ++ q ∷ es → All IsUnmet bs → All IsUnmet cs → (IsUnmet p → ⊥) → (IsUnmet q → ⊥) → p ≡ q
one_first [] [] ds es p q e h k m n = (no_front p ds es q e).0
one_first [] (c ∷ cs) ds es p q e h k m n = absurd (m (subst IsUnmet (sym (no_front p ds (cs ++ q ∷ es) c e).0) (All-head IsUnmet c cs k)))
one_first (b ∷ bs) [] ds es p q e h k m n = absurd (n (subst IsUnmet (no_front b (bs ++ p ∷ ds) es q e).0 (All-head IsUnmet b bs h)))
one_first (b ∷ bs) (c ∷ cs) ds es p q e h k m n =
    one_first bs cs ds es p q (no_front b (bs ++ p ∷ ds) (cs ++ q ∷ es) c e).1 (All-tail IsUnmet b bs h) (All-tail IsUnmet c cs k) m n

one_pair : (read : Read) (a b : outside) (text other : List ℕ) → IsFirstMet read a → IsFirstMet read b → text ≡ outside_text a → other ≡ outside_text b → IsSamePair text other
one_pair read a b text other f g e h =
    let same = one_first f.before g.before f.after g.after f.pair g.pair (sym f.split ∙ g.split) f.unmet g.unmet (λ u. u f.holds.values f.holds.true) (λ u. u g.holds.values g.holds.true) in
    record {
      one = a;
      two = b;
      written = e;
      other_written = h;
      clause = f.holds.clause ∙ ap (λ (p : Pair). p.clause) same ∙ sym g.holds.clause;
      rule = f.holds.rule ∙ ap (λ (p : Pair). p.rule) same ∙ sym g.holds.rule;
      others = f.holds.other ∙ ap (λ (p : Pair). p.other) same ∙ sym g.holds.other;
    }

-- there is a pair where there is a first one
none_split : (ps qs : List Pair) (p : Pair) → [] ≡ ps ++ p ∷ qs → ⊥
none_split [] qs p e = absurd (cc)
none_split (x ∷ ps) qs p e = absurd (cc)

has_pairs : (bytes : List ℕ) (p : Problem) (read : Read) (P : Pair → Type 0) → IsBuilt bytes p → read_of p ≡ Ok read → IsFirst (pairs_of read) P → HasPairs bytes
has_pairs bytes p read P built is first = record {
  problem = p;
  built = built;
  read = read;
  is = is;
  some = λ e. none_split first.before first.after first.pair (sym e ∙ first.split);
}

-- ---- problems without a ground set
-- why the problem has none, with the status and the text of that
data Refuses (p : Problem) (text : List ℕ) : Status → Type 0 where
  broken_alone : (o : outside) → read_of p ≡ Err (refusal.Outside o) → text ≡ outside_text o → Refuses p text Outside
  broken_pair : (read : Read) (o : outside) → read_of p ≡ Ok read → IsFirstMet read o → text ≡ outside_text o → Refuses p text Outside
  passed_alone : (l : limit) → read_of p ≡ Err (refusal.Limit l) → text ≡ limit_text l → Refuses p text Limit
  passed_by_groups : (read : Read) (l : limit) → IsReadAs p read → groups_made (chain_of p read) read.1 ≡ Err l → text ≡ limit_text l → Refuses p text Limit

-- ---- where solving ends: with a refusal, with a number that is too wide over two cases, or within scope
data SolveEnds (bytes text : List ℕ) : Status → Type 0 where
  misspelled : Misspelled bytes text → SolveEnds bytes text Spelling
  long : TooLong bytes text → SolveEnds bytes text Limit
  missorted : Missorted bytes text → SolveEnds bytes text Sort
  many : TooMany bytes text → SolveEnds bytes text Limit
  waiting : OtherForm bytes text → SolveEnds bytes text NotBuilt
  refused : (p : Problem) (s : Status) → IsBuilt bytes p → Refuses p text s → SolveEnds bytes text s
  strained : (p : Problem) (s : PairStrain) → IsBuilt bytes p → IsStrained p s → SolveEnds bytes text Overflow
  verdict : (p : Problem) (s : Status) → InScope bytes p → (IsDetermined s → ⊥) → SolveEnds bytes text s

limited_end : (bytes text : List ℕ) → Limited bytes text → SolveEnds bytes text Limit
limited_end bytes text h = refused h.problem Limit h.built (elim h.cause [
  | naming e ↦ passed_alone h.passed_limit e h.written
  | making read taken e ↦ passed_by_groups read h.passed_limit taken e h.written
])

unruly_end : (bytes text : List ℕ) → Unruly bytes text → SolveEnds bytes text Outside
unruly_end bytes text h = refused h.problem Outside h.built (elim h.cause [
  | alone e ↦ broken_alone h.broken e h.written
  | paired read e first ↦ broken_pair read h.broken e first h.written
])

solve_ends : (most : ℕ) (bytes text : List ℕ) (s : Status) → Does bytes text (Solve most) s → SolveEnds bytes text s
solve_ends most bytes text _ (answers.too_long h) = long h
solve_ends most bytes text _ (answers.misspelled h) = misspelled h
solve_ends most bytes text _ (answers.missorted h) = missorted h
solve_ends most bytes text _ (answers.too_many h) = many h
solve_ends most bytes text _ (answers.other_form h) = waiting h
solve_ends most bytes text _ (answers.limited h) = limited_end bytes text h
solve_ends most bytes text _ (answers.unruly h) = unruly_end bytes text h
solve_ends most bytes text _ (answers.strained_pair h) = strained h.problem h.strain h.built h.cause
solve_ends most bytes text _ (answers.strained h) = verdict h.problem Overflow h.scope (λ d. d (inl answers.overflow))
solve_ends most bytes text _ (answers.satisfiable h) = verdict h.problem Sat h.scope (λ d. d (inl answers.sat))
solve_ends most bytes text _ (answers.unsatisfiable h) = verdict h.problem Unsat h.scope (λ d. d (inl answers.unsat))
solve_ends most bytes text _ (answers.out_of_nodes h) = verdict h.problem Spent h.scope (λ d. d (inl answers.spent))

-- ---- two answers
-- they are one; or they differ where cases are tested with each other, in the point alone, or the second is a number that is too wide
data Compared (bytes text other : List ℕ) (s t : Status) : Type 0 where
  same_text : s ≡ t → text ≡ other → Compared bytes text other s t
  same_pair : HasPairs bytes → s ≡ t → IsSamePair text other → Compared bytes text other s t
  too_wide : HasPairs bytes → t ≡ Overflow → Compared bytes text other s t

as_one : (bytes text other : List ℕ) (s t : Status) → Compared bytes text other s t → t ≢ Overflow → (s ≡ t) × ((text ≡ other) ⊎ IsSamePair text other)
as_one bytes text other s t (same_text e f) n = (e, inl f)
as_one bytes text other s t (same_pair h e f) n = (e, inr f)
as_one bytes text other s t (too_wide h e) n = absurd (n e)

as_only : (bytes text other : List ℕ) (s t : Status) → Compared bytes text other s t → (HasPairs bytes → ⊥) → (s ≡ t) × (text ≡ other)
as_only bytes text other s t (same_text e f) n = (e, f)
as_only bytes text other s t (same_pair h e f) n = absurd (n h)
as_only bytes text other s t (too_wide h e) n = absurd (n h)

-- ---- causes that exclude one another, and causes that are one
module _ (bytes text other : List ℕ) where
  one_misspelling : Misspelled bytes text → Misspelled bytes other → text ≡ other
  one_misspelling a b = a.written ∙ ap spelling_text (one_fault bytes a.fault b.fault a.cause b.cause a.known b.known) ∙ sym b.written

  misspelled_or_read : (p : Problem) → Misspelled bytes text → IsRead bytes p → ⊥
  misspelled_or_read p a r = a.known (no_fault bytes p a.fault r.spelled a.cause)

  read_or_misspelled : (p : Problem) → IsRead bytes p → Misspelled bytes other → ⊥
  read_or_misspelled p r b = b.known (no_fault bytes p b.fault r.spelled b.cause)

  long_or_short : TooLong bytes text → length bytes ≤ most_bytes → ⊥
  long_or_short a h = omega (arith, a.size, h)

  short_or_long : length bytes ≤ most_bytes → TooLong bytes other → ⊥
  short_or_long h b = omega (arith, b.size, h)

  one_length : TooLong bytes text → TooLong bytes other → text ≡ other
  one_length a b = a.written ∙ sym b.written

  one_read : (p q : Problem) → IsRead bytes p → IsRead bytes q → p ≡ q
  one_read p q r s = one_problem bytes p q r.spelled s.spelled

  one_print : Printed bytes text → Printed bytes other → text ≡ other
  one_print a b = a.written ∙ ap problem_text (one_read a.problem b.problem a.read b.read) ∙ sym b.written

  one_sort : Missorted bytes text → Missorted bytes other → text ≡ other
  one_sort a b =
      let same = one_read a.problem b.problem a.read b.read in
      a.written ∙ ap sort_text (some_same a.fault b.fault (sym a.cause ∙ ap sort_fault same ∙ b.cause)) ∙ sym b.written

  missorted_or_sorted : (p : Problem) → Missorted bytes text → IsSorted bytes p → ⊥
  missorted_or_sorted p a s = let same = one_read a.problem p a.read s.read in let e : Some a.fault ≡ None = sym a.cause ∙ ap sort_fault same ∙ s.sorted in cc

  sorted_or_missorted : (p : Problem) → IsSorted bytes p → Missorted bytes other → ⊥
  sorted_or_missorted p s b = let same = one_read p b.problem s.read b.read in let e : None ≡ Some b.fault = sym s.sorted ∙ ap sort_fault same ∙ b.cause in cc

  one_count : TooMany bytes text → TooMany bytes other → text ≡ other
  one_count a b =
      let same = one_read a.problem b.problem a.sorted.read b.sorted.read in
      a.written ∙ ap limit_text (some_same a.passed_limit b.passed_limit (sym a.cause ∙ ap passed same ∙ b.cause)) ∙ sym b.written

  many_or_counted : (p : Problem) → TooMany bytes text → IsCounted bytes p → ⊥
  many_or_counted p a s = let same = one_read a.problem p a.sorted.read s.sorted.read in let e : Some a.passed_limit ≡ None = sym a.cause ∙ ap passed same ∙ s.counted in cc

  counted_or_many : (p : Problem) → IsCounted bytes p → TooMany bytes other → ⊥
  counted_or_many p s b = let same = one_read p b.problem s.sorted.read b.sorted.read in let e : None ≡ Some b.passed_limit = sym s.counted ∙ ap passed same ∙ b.cause in cc

  other_or_built : (p : Problem) → OtherForm bytes text → IsBuilt bytes p → ⊥
  other_or_built p a s = let same = one_read a.problem p a.counted.sorted.read s.counted.sorted.read in let e : true ≡ false = sym a.cause ∙ ap is_waiting same ∙ s.built in cc

  built_or_other : (p : Problem) → IsBuilt bytes p → OtherForm bytes other → ⊥
  built_or_other p s b = let same = one_read p b.problem s.counted.sorted.read b.counted.sorted.read in let e : false ≡ true = sym s.built ∙ ap is_waiting same ∙ b.cause in cc

  refused_or_within : (s : Status) (p q : Problem) → IsBuilt bytes p → Refuses p text s → InScope bytes q → ⊥
  refused_or_within _ p q a (broken_alone o e w) b = ground_unruly q b.within o b.is (alone (ap read_of (one_read q p b.built.counted.sorted.read a.counted.sorted.read) ∙ e))
  refused_or_within _ p q a (broken_pair read o e f w) b =
      ground_unruly q b.within o b.is (paired read (ap read_of (one_read q p b.built.counted.sorted.read a.counted.sorted.read) ∙ e) f)
  refused_or_within _ p q a (passed_alone l e w) b = ground_limited q b.within l b.is (naming (ap read_of (one_read q p b.built.counted.sorted.read a.counted.sorted.read) ∙ e))
  refused_or_within _ p q a (passed_by_groups read l taken e w) b =
      let same = one_read p q a.counted.sorted.read b.built.counted.sorted.read in
      ground_limited q b.within l b.is (making read (subst (λ (r : Problem). IsReadAs r read) same taken) (subst (λ (r : Problem). groups_made (chain_of r read) read.1 ≡ Err l) same e))

  -- a strain over two cases of a problem that is refused
  refused_or_strained : (s : Status) (p q : Problem) (strain : PairStrain) → IsBuilt bytes p → Refuses p text s → IsBuilt bytes q → IsStrained q strain → Compared bytes text other s Overflow
  refused_or_strained s p q strain a r b c = too_wide (has_pairs bytes q c.read (λ x. IsStrainedPair x strain) b c.is c.first) refl

  one_error : (a b : ChainErr) → ◌≡◌ {A = Result Read ChainErr} (Err a) (Err b) → a ≡ b
  one_error a b e = cc

  limit_or_outside : (l : limit) (o : outside) → refusal.Limit l ≡ refusal.Outside o → ⊥
  limit_or_outside l o e = absurd (cc)

  one_refusal : (s t : Status) (p : Problem) → IsBuilt bytes p → Refuses p text s → Refuses p other t → Compared bytes text other s t
  one_refusal _ _ p built (broken_alone o e w) (broken_alone u f x) =
      let same : o ≡ u = (let h = one_error (refusal.Outside o) (refusal.Outside u) (sym e ∙ f) in cc) in
      same_text refl (w ∙ ap outside_text same ∙ sym x)
  one_refusal _ _ p built (broken_alone o e w) (passed_alone l f x) = absurd (limit_or_outside l o (one_error (refusal.Limit l) (refusal.Outside o) (sym f ∙ e)))
  one_refusal _ _ p built (broken_alone o e w) (broken_pair read u f g x) = absurd (one_way p read (refusal.Outside o) f e)
  one_refusal _ _ p built (broken_alone o e w) (passed_by_groups read l taken g x) = absurd (one_way p read (refusal.Outside o) (read_is p read taken) e)
  one_refusal _ _ p built (passed_alone l e w) (broken_alone u f x) = absurd (limit_or_outside l u (one_error (refusal.Limit l) (refusal.Outside u) (sym e ∙ f)))
  one_refusal _ _ p built (passed_alone l e w) (passed_alone m f x) =
      let same : l ≡ m = (let h = one_error (refusal.Limit l) (refusal.Limit m) (sym e ∙ f) in cc) in
      same_text refl (w ∙ ap limit_text same ∙ sym x)
  one_refusal _ _ p built (passed_alone l e w) (broken_pair read u f g x) = absurd (one_way p read (refusal.Limit l) f e)
  one_refusal _ _ p built (passed_alone l e w) (passed_by_groups read m taken g x) = absurd (one_way p read (refusal.Limit l) (read_is p read taken) e)
  one_refusal _ _ p built (broken_pair read o e f w) (broken_alone u g x) = absurd (one_way p read (refusal.Outside u) e g)
  one_refusal _ _ p built (broken_pair read o e f w) (passed_alone l g x) = absurd (one_way p read (refusal.Limit l) e g)
  one_refusal _ _ p built (broken_pair read o e f w) (broken_pair others u g h x) =
      let same = one_reading p others read g e in
      same_pair (has_pairs bytes p read (λ z. IsMet (rule_words read.1.names) (count read.1.names) z o) built e f) refl
      (one_pair read o u text other f (subst (λ (r : Read). IsFirstMet r u) same h) w x)
  one_refusal _ _ p built (broken_pair read o e f w) (passed_by_groups others l taken g x) =
      let same = one_reading p others read (read_is p others taken) e in
      absurd (none_met read o (subst (λ (r : Read). All IsUnmet (pairs_of r)) same taken.apart) f)
  one_refusal _ _ p built (passed_by_groups read l taken e w) (broken_alone u g x) = absurd (one_way p read (refusal.Outside u) (read_is p read taken) g)
  one_refusal _ _ p built (passed_by_groups read l taken e w) (passed_alone m g x) = absurd (one_way p read (refusal.Limit m) (read_is p read taken) g)
  one_refusal _ _ p built (passed_by_groups read l taken e w) (broken_pair others u g h x) =
      let same = one_reading p read others (read_is p read taken) g in
      absurd (none_met others u (subst (λ (r : Read). All IsUnmet (pairs_of r)) same taken.apart) h)
  one_refusal _ _ p built (passed_by_groups read l taken e w) (passed_by_groups others m held g x) =
      let same = one_reading p read others (read_is p read taken) (read_is p others held) in
      let one = sym e ∙ ap (λ (r : Read). groups_made (chain_of p r) r.1) same ∙ g in
      let limits : l ≡ m = cc in
      same_text refl (w ∙ ap limit_text limits ∙ sym x)

  two_refusals : (s t : Status) (p q : Problem) → IsBuilt bytes p → Refuses p text s → IsBuilt bytes q → Refuses q other t → Compared bytes text other s t
  two_refusals s t p q a r b u = one_refusal s t p a r (subst (λ (x : Problem). Refuses x other t) (one_read q p b.counted.sorted.read a.counted.sorted.read) u)

  -- ---- one end
  one_print_end : (s t : Status) → Does bytes text Print s → Does bytes other Print t → (s ≡ t) × (text ≡ other)
  one_print_end _ _ (answers.misspelled a) (answers.misspelled b) = (refl, one_misspelling a b)
  one_print_end _ _ (answers.misspelled a) (answers.too_long b) = absurd (short_or_long a.size b)
  one_print_end _ _ (answers.misspelled a) (answers.printed b) = absurd (misspelled_or_read b.problem a b.read)
  one_print_end _ _ (answers.too_long a) (answers.misspelled b) = absurd (long_or_short a b.size)
  one_print_end _ _ (answers.too_long a) (answers.too_long b) = (refl, one_length a b)
  one_print_end _ _ (answers.too_long a) (answers.printed b) = absurd (long_or_short a b.read.size)
  one_print_end _ _ (answers.printed a) (answers.misspelled b) = absurd (read_or_misspelled a.problem a.read b)
  one_print_end _ _ (answers.printed a) (answers.too_long b) = absurd (short_or_long a.read.size b)
  one_print_end _ _ (answers.printed a) (answers.printed b) = (refl, one_print a b)

  compared : (s t : Status) → SolveEnds bytes text s → SolveEnds bytes other t → IsDetermined s → Compared bytes text other s t
  compared _ _ (misspelled a) (misspelled b) d = same_text refl (one_misspelling a b)
  compared _ _ (misspelled a) (long b) d = absurd (short_or_long a.size b)
  compared _ _ (misspelled a) (missorted b) d = absurd (misspelled_or_read b.problem a b.read)
  compared _ _ (misspelled a) (many b) d = absurd (misspelled_or_read b.problem a b.sorted.read)
  compared _ _ (misspelled a) (waiting b) d = absurd (misspelled_or_read b.problem a b.counted.sorted.read)
  compared _ t (misspelled a) (refused q _ b r) d = absurd (misspelled_or_read q a b.counted.sorted.read)
  compared _ _ (misspelled a) (strained q s b r) d = absurd (misspelled_or_read q a b.counted.sorted.read)
  compared _ t (misspelled a) (verdict q _ b n) d = absurd (misspelled_or_read q a b.built.counted.sorted.read)
  compared _ _ (long a) (misspelled b) d = absurd (long_or_short a b.size)
  compared _ _ (long a) (long b) d = same_text refl (one_length a b)
  compared _ _ (long a) (missorted b) d = absurd (long_or_short a b.read.size)
  compared _ _ (long a) (many b) d = absurd (long_or_short a b.sorted.read.size)
  compared _ _ (long a) (waiting b) d = absurd (long_or_short a b.counted.sorted.read.size)
  compared _ t (long a) (refused q _ b r) d = absurd (long_or_short a b.counted.sorted.read.size)
  compared _ _ (long a) (strained q s b r) d = absurd (long_or_short a b.counted.sorted.read.size)
  compared _ t (long a) (verdict q _ b n) d = absurd (long_or_short a b.built.counted.sorted.read.size)
  compared _ _ (missorted a) (misspelled b) d = absurd (read_or_misspelled a.problem a.read b)
  compared _ _ (missorted a) (long b) d = absurd (short_or_long a.read.size b)
  compared _ _ (missorted a) (missorted b) d = same_text refl (one_sort a b)
  compared _ _ (missorted a) (many b) d = absurd (missorted_or_sorted b.problem a b.sorted)
  compared _ _ (missorted a) (waiting b) d = absurd (missorted_or_sorted b.problem a b.counted.sorted)
  compared _ t (missorted a) (refused q _ b r) d = absurd (missorted_or_sorted q a b.counted.sorted)
  compared _ _ (missorted a) (strained q s b r) d = absurd (missorted_or_sorted q a b.counted.sorted)
  compared _ t (missorted a) (verdict q _ b n) d = absurd (missorted_or_sorted q a b.built.counted.sorted)
  compared _ _ (many a) (misspelled b) d = absurd (read_or_misspelled a.problem a.sorted.read b)
  compared _ _ (many a) (long b) d = absurd (short_or_long a.sorted.read.size b)
  compared _ _ (many a) (missorted b) d = absurd (sorted_or_missorted a.problem a.sorted b)
  compared _ _ (many a) (many b) d = same_text refl (one_count a b)
  compared _ _ (many a) (waiting b) d = absurd (many_or_counted b.problem a b.counted)
  compared _ t (many a) (refused q _ b r) d = absurd (many_or_counted q a b.counted)
  compared _ _ (many a) (strained q s b r) d = absurd (many_or_counted q a b.counted)
  compared _ t (many a) (verdict q _ b n) d = absurd (many_or_counted q a b.built.counted)
  compared _ _ (waiting a) (misspelled b) d = absurd (read_or_misspelled a.problem a.counted.sorted.read b)
  compared _ _ (waiting a) (long b) d = absurd (short_or_long a.counted.sorted.read.size b)
  compared _ _ (waiting a) (missorted b) d = absurd (sorted_or_missorted a.problem a.counted.sorted b)
  compared _ _ (waiting a) (many b) d = absurd (counted_or_many a.problem a.counted b)
  compared _ _ (waiting a) (waiting b) d = same_text refl (a.written ∙ sym b.written)
  compared _ t (waiting a) (refused q _ b r) d = absurd (other_or_built q a b)
  compared _ _ (waiting a) (strained q s b r) d = absurd (other_or_built q a b)
  compared _ t (waiting a) (verdict q _ b n) d = absurd (other_or_built q a b.built)
  compared s _ (refused p _ a r) (misspelled b) d = absurd (read_or_misspelled p a.counted.sorted.read b)
  compared s _ (refused p _ a r) (long b) d = absurd (short_or_long a.counted.sorted.read.size b)
  compared s _ (refused p _ a r) (missorted b) d = absurd (sorted_or_missorted p a.counted.sorted b)
  compared s _ (refused p _ a r) (many b) d = absurd (counted_or_many p a.counted b)
  compared s _ (refused p _ a r) (waiting b) d = absurd (built_or_other p a b)
  compared s t (refused p _ a r) (refused q _ b u) d = two_refusals s t p q a r b u
  compared s _ (refused p _ a r) (strained q strain b u) d = refused_or_strained s p q strain a r b u
  compared s t (refused p _ a r) (verdict q _ b n) d = absurd (refused_or_within s p q a r b)
  compared _ t (strained p strain a r) b d = absurd (d (inl answers.overflow))
  compared s t (verdict p _ a n) b d = absurd (n d)

-- ---- words
module _ (words : List (List ℕ)) (bytes text other : List ℕ) where
  equal : (s t : Status) → (s ≡ t) × (text ≡ other) → Compared bytes text other s t
  equal s t e = same_text e.0 e.1

  compared_tasks : (p q : Task) (s t : Status) → Asks words p → Asks words q → Does bytes text p s → Does bytes other q t → IsDetermined s → Compared bytes text other s t
  compared_tasks Print Print s t e f a b d = equal s t (one_print_end bytes text other s t a b)
  compared_tasks Print (Solve n) s t e f a b d = absurd (printing_solves words n e f.0)
  compared_tasks (Solve m) Print s t e f a b d = absurd (printing_solves words m f e.0)
  compared_tasks (Solve m) (Solve n) s t e f a b d = compared bytes text other s t (solve_ends m bytes text s a) (solve_ends n bytes other t b) d

  compared_answers : (s t : Status) → Answers words bytes text s → Answers words bytes other t → IsDetermined s → Compared bytes text other s t
  compared_answers _ _ (answers.usage a e) (answers.usage b f) d = same_text refl (e ∙ sym f)
  compared_answers _ t (answers.usage a e) (answers.done {task} asked b) d = absurd (a task asked)
  compared_answers s _ (answers.done {task} asked a) (answers.usage b f) d = absurd (b task asked)
  compared_answers s t (answers.done {task = p} e a) (answers.done {task = q} f b) d = compared_tasks p q s t e f a b d

pub one_answer : OneAnswer
one_answer words bytes text other s t a b d n = as_one bytes text other s t (compared_answers words bytes text other s t a b d) n

pub only_answer : OnlyAnswer
only_answer words bytes text other s t a b d n = as_only bytes text other s t (compared_answers words bytes text other s t a b d) n
