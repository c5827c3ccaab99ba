-- What holds of all cases, and of all clauses of cases, of clauses that were read.
use Rattle.std.proofs.Common.{◌≡◌, ◌≤◌, ℕ, List, [], ◌∷◌, ◌++◌, length, true, Option, Some, None, Ok, refl, sym, ap, subst, ◌∙◌, inl, inr}
use Rattle.std.specs.Prelude.{slice_get, position, option_map}
use Rattle.std.specs.List.{All, Contains}
use Rattle.std.specs.Str.{bytes_eq}
use Rattle.std.proofs.lemmas.List.Elements.{All-append, All-cons, All-contains, All-contains_itself, All-head, All-nil, All-weaker}
use Rattle.std.proofs.lemmas.List.Quantifiers.{position-Some}
use Rattle.std.proofs.lemmas.Option.{get_or_from_slice_get, slice_get-map}
use Rattle.std.proofs.lemmas.Slice.Eq.{bytes_eq-Decides}
use Rattle.hp_tree.specs.Limits.{most_arguments}
use Rattle.hp_tree.specs.declared.term.Term.{Term}
use Rattle.hp_tree.specs.declared.problem.Atom.{Atom}
use Rattle.hp_tree.specs.declared.problem.Cmp.TheVariants.{Lt}
use Rattle.hp_tree.specs.Value.{Word}
use Rattle.hp_lit.specs.declared.literal.NumLit.{NumLit}
use Rattle.hp_lit.specs.Fit.{IsNumFit}
use Rattle.hp_class.specs.Small.{HasFewArguments}
use Rattle.hp_defs.specs.declared.names.Signature.{Signature}
use Rattle.hp_defs.specs.Names.{NameList, function_words, signature_name}
use Rattle.hp_norm.specs.declared.flat.FlatClause.{FlatClause}
use Rattle.hp_norm.specs.Flat.{IsFlat}
use Rattle.hp_flatten.specs.Applications.{applications, atoms_applications, clause_applications}
use Rattle.hp_flatten.specs.Flattening.{argument_vars, at_words, flattened}
use Rattle.hp_flatten.specs.Laws.{FlattenedHasOne, FlattenedIsFlat}
use Rattle.hp_cases.specs.declared.case.Bound.{Bound}
use Rattle.hp_cases.specs.declared.case.Bound.TheVariants.{Low, High, Same}
use Rattle.hp_cases.specs.Bounds.{head_bound}
use Rattle.hp_cases.specs.Cases.{HasBound, bound_term}
use Rattle.hp_pairs.specs.declared.branch.Branch.{Branch}
use Rattle.hp_pairs.specs.declared.branch.Given.{Given}
use Rattle.hp_pairs.specs.Answers.{BranchIsFit, IsFitGap}
use Rattle.hp_rules.specs.declared.ruled.CaseClause.{CaseClause}
use Rattle.hp_rules.specs.declared.ruled.Ruled.{Ruled}
use Rattle.hp_rules.specs.Rules.{first_row, is_num_function, monotone_places, new_branch, nothing_ruled, rows_of, rule_words, with_branches}
use Rattle.hp_ruled.specs.Laws.{AreRuled, BranchesAreFit, case_of, given_term}
use Rattle.hp_ruled.proofs.Applications.{all_get, case_able, num_signature}
use Rattle.hp_ruled.proofs.Guards.{IsBareTerm, IsRuleAtom, atom_rowed, guard_rules, head_bounds, no_applications, term_rowed}
use Rattle.hp_ruled.proofs.Guards as guards
use Rattle.hp_ruled.proofs.Numbers.{flat_names}
use Rattle.hp_ruled.proofs.Placing.{Any, Bounded, GapIs, HasGap, all_placed, any_placed, one_placed}
use Rattle.hp_ruled.proofs.Reading.{CaseRead, Read, all_keep}
use Rattle.hp_ruled.proofs.Truth.{IsRowed, num_scope, rows_fit}

module _ (names : NameList) where
  abbrev ws : List Word
  ws = rule_words names

  -- ---- cases
  pub record BranchHas (b : Branch) : Type 0 where
    pub num : is_num_function names (Some b.func) ≡ true
    pub args : (s : Signature) → slice_get names.signatures b.func ≡ Some s → b.args ≡ length s.args
    pub guard : All (IsRuleAtom names b.args) b.guard
    pub rowed : rows_of ws b.guard ≡ Ok b.rows
    pub low : (g : Given) → b.low ≡ Some g → IsBareTerm (flat_names names b.args) g.term
    pub high : (g : Given) → b.high ≡ Some g → IsBareTerm (flat_names names b.args) g.term
    pub gap : (r : NumLit) → b.gap ≡ Some r → IsNumFit r

  pub record BranchSays (b : Branch) : Type 0 where
    pub has : BranchHas b
    pub gapped : (l h : Given) → b.low ≡ Some l → b.high ≡ Some h → GapIs ws b l h

  first_fit : (rows : List NumLit) (r : NumLit) → All IsNumFit rows → first_row rows ≡ Some r → IsNumFit r
  first_fit [] r h e = absurd (cc)
  first_fit (l ∷ rows) r h e = let is : l ≡ r = cc in subst IsNumFit is (All-head IsNumFit l rows h)

  -- the row of a gap can be decided
  gap_fit : (b : Branch) (l h : Given) (r : NumLit) → IsBareTerm (flat_names names b.args) l.term → IsBareTerm (flat_names names b.args) h.term → HasGap ws b l h → b.gap ≡ Some r → IsNumFit r
  gap_fit b l h r low high gap e =
      let atom : Atom = record { left = h.term; cmp = Lt; right = l.term } in
      let is : IsRowed ws atom = record { sorted = guards.sides_num (num_scope ws) atom (term_rowed names b.args h.term high) (term_rowed names b.args l.term low); convex = refl } in
      first_fit gap.rows r (rows_fit ws (atom ∷ []) gap.rows (All-cons (IsRowed ws) atom [] is (All-nil (IsRowed ws))) gap.formed) (sym gap.gap ∙ e)

  -- a case with a further bound
  module _ (bound : Bound) (base now : Branch) (h : BranchHas base) (term : IsBareTerm (flat_names names base.args) (bound_term bound)) (b : Bounded ws bound base now) where
    same_scope : (t : Term) → IsBareTerm (flat_names names base.args) t → IsBareTerm (flat_names names now.args) t
    same_scope t is = subst (λ n. IsBareTerm (flat_names names n) t) (sym b.args) is

    lows : (g : Given) → now.low ≡ Some g → IsBareTerm (flat_names names now.args) g.term
    lows g e = elim (b.lows g e) [ inl f ↦ same_scope g.term (h.low g f) | inr is ↦ subst (IsBareTerm (flat_names names now.args)) is (same_scope (bound_term bound) term) ]

    highs : (g : Given) → now.high ≡ Some g → IsBareTerm (flat_names names now.args) g.term
    highs g e = elim (b.highs g e) [ inl f ↦ same_scope g.term (h.high g f) | inr is ↦ subst (IsBareTerm (flat_names names now.args)) is (same_scope (bound_term bound) term) ]

    pub case_grown : BranchSays now
    case_grown = record {
      has = record {
        num = subst (λ f. is_num_function names (Some f) ≡ true) (sym b.func) h.num;
        args = λ s e. b.args ∙ h.args s (ap (slice_get names.signatures) (sym b.func) ∙ e);
        guard = subst (λ n. All (IsRuleAtom names n) now.guard) (sym b.args) (subst (All (IsRuleAtom names base.args)) (sym b.guard) h.guard);
        rowed = ap (rows_of ws) b.guard ∙ h.rowed ∙ ap (λ rows. Ok rows) (sym b.rows);
        low = lows;
        high = highs;
        gap = λ r e. elim (b.gaps r e) [ inl f ↦ h.gap r f | inr g ↦ gap_fit now g.0 g.1 r (lows g.0 g.2) (highs g.1 g.3) g.4 e ];
      };
      gapped = b.gapped;
    }

  -- ---- clauses of cases
  abbrev pub IsOf : ℕ → List NumLit → Bound → Branch → Type 0
  IsOf func rows bound b = (b.func ≡ func) × (b.rows ≡ rows) × HasBound (case_of b) bound

  pub record ClauseSays (branches : List Branch) (k : CaseClause) : Type 0 where
    pub word : Word
    pub count : ℕ
    pub named : (s : Signature) → slice_get names.signatures k.func ≡ Some s → s.name ≡ word
    pub counted : (s : Signature) → slice_get names.signatures k.func ≡ Some s → length s.args ≡ count
    pub flat : IsFlat names k.clause
    pub vars : k.clause.vars ≡ argument_vars count
    pub bound : Bound
    pub head : head_bound word k.clause.head ≡ Some bound
    pub one : clause_applications k.clause ≡ at_words word count ∷ []
    pub free : applications (bound_term bound) ≡ []
    pub guard : All (IsRuleAtom names count) k.clause.guard
    pub rows : List NumLit
    pub rowed : rows_of ws k.clause.guard ≡ Ok rows
    pub case : Any (IsOf k.func rows bound) branches

  kept_term : (o n : Option Given) (t : Term) → ((g : Given) → o ≡ Some g → n ≡ Some g) → option_map given_term o ≡ Some t → option_map given_term n ≡ Some t
  kept_term None n t keep e = absurd (cc)
  kept_term (Some g) n t keep e = ap (option_map given_term) (keep g refl) ∙ e

  kept_bound : (bound more : Bound) (old now : Branch) → Bounded ws more old now → HasBound (case_of old) bound → HasBound (case_of now) bound
  kept_bound (Low t) more old now b h = kept_term old.low now.low t b.low h
  kept_bound (High t) more old now b h = kept_term old.high now.high t b.high h
  kept_bound (Same t) more old now b h = (kept_term old.low now.low t b.low h.0, kept_term old.high now.high t b.high h.1)

  kept_case : (func : ℕ) (rows : List NumLit) (bound more : Bound) (old now : Branch) → IsOf func rows bound old → Bounded ws more old now → IsOf func rows bound now
  kept_case func rows bound more old now is b = (b.func ∙ is.0, b.rows ∙ is.1, kept_bound bound more old now b is.2)

  clause_kept : (before after : List Branch) (k : CaseClause) → ((rows : List NumLit) (bound : Bound) → Any (IsOf k.func rows bound) before → Any (IsOf k.func rows bound) after) → ClauseSays before k → ClauseSays after k
  clause_kept before after k keep h = record {
    word = h.word;
    count = h.count;
    named = h.named;
    counted = h.counted;
    flat = h.flat;
    vars = h.vars;
    bound = h.bound;
    head = h.head;
    one = h.one;
    free = h.free;
    guard = h.guard;
    rows = h.rows;
    rowed = h.rowed;
    case = keep h.rows h.bound h.case;
  }

  word_is : (word : Word) (func : ℕ) (s : Signature) → position (bytes_eq word) (function_words names) ≡ Some func → slice_get names.signatures func ≡ Some s → s.name ≡ word
  word_is word func s e there =
      let found = position-Some (bytes_eq word) (function_words names) func [] e in
      let at : slice_get (function_words names) func ≡ Some s.name = slice_get-map signature_name names.signatures func ∙ ap (option_map signature_name) there in
      sym ((bytes_eq-Decides word _).0 found.1 ∙ get_or_from_slice_get (function_words names) func s.name [] at)

  -- ---- all clauses
  pub record AllSay (r : Ruled) : Type 0 where
    pub branches : All BranchSays r.branches
    pub clauses : All (ClauseSays r.branches) r.clauses

  nothing_says : AllSay nothing_ruled
  nothing_says = record { branches = All-nil BranchSays; clauses = All-nil (ClauseSays []) }

pub same_signature : {X : Type 0} (xs : List X) (k : ℕ) (x y : X) → slice_get xs k ≡ Some x → slice_get xs k ≡ Some y → x ≡ y
same_signature xs k x y e f = let both : Some x ≡ Some y = sym e ∙ f in cc

none_before : {A : Type 0} (xs ys : List A) (q : A) → xs ≡ [] → xs ++ ys ≡ q ∷ [] → ys ≡ q ∷ []
none_before xs ys q none e = ap (λ zs. zs ++ ys) (sym none) ∙ e

module _ (flatten : FlattenedIsFlat) (has_one : FlattenedHasOne) (names : NameList) (clauses : List FlatClause) (ruled : Ruled) (are : AreRuled names clauses ruled) where
  abbrev monotone : List ℕ
  monotone = monotone_places names clauses

  case_says : (before : Ruled) (c : FlatClause) (after : Ruled) → Contains clauses c → AllSay names before → (r : CaseRead names monotone before c after)
      → AllSay names (with_branches before r.func (flattened r.application c) r.branches)
  case_says before c after among all r =
      let able = case_able names monotone before c after r are.constants are.few (All-contains (IsFlat names) clauses c are.flat among) in
      let a = r.application in
      let k = flattened a c in
      let n = length a.args in
      let f = r.func in
      let s = able.able.signature in
      let flat : IsFlat names k = flatten names c a able.able in
      let one : clause_applications k ≡ at_words a.func n ∷ [] = has_one c a r.one in
      let guard : All (IsRuleAtom names n) k.guard = guard_rules names c a r.arguments able.able.few able.able.flat.guard r.guard able.arguments in
      let only : atoms_applications k.head ≡ at_words a.func n ∷ [] = none_before (atoms_applications k.guard) (atoms_applications k.head) (at_words a.func n) (no_applications names n k.guard guard) one in
      let term : IsBareTerm (flat_names names n) (bound_term r.bound) = head_bounds names a.func n s able.able.known able.able.result k.head r.bound (at_words a.func n) r.head flat.head only in
      let fresh : BranchHas names (new_branch f n k r.rows) = record {
        num = r.num;
        args = λ t e. able.count ∙ ap (λ (x : Signature). length x.args) (same_signature names.signatures f s t able.there e);
        guard = guard;
        rowed = r.rowed;
        low = λ g e. absurd (cc);
        high = λ g e. absurd (cc);
        gap = λ l e. absurd (cc);
      } in
      let branches = all_placed (rule_words names) f n k r.rows r.bound (BranchSays names)
      (λ now b. case_grown names r.bound (new_branch f n k r.rows) now fresh term b)
      (λ old now e same p b.
      let count : old.args ≡ n = p.has.args s (ap (slice_get names.signatures) e ∙ able.there) ∙ sym able.count in
      case_grown names r.bound old now p.has (subst (λ m. IsBareTerm (flat_names names m) (bound_term r.bound)) (sym count) term) b)
      before.branches r.branches r.cased all.branches in
      let here : ClauseSays names r.branches (record { func = f; clause = k }) = record {
        word = a.func;
        count = n;
        named = λ t e. word_is names a.func f t r.place e;
        counted = λ t e. sym (able.count ∙ ap (λ (x : Signature). length x.args) (same_signature names.signatures f s t able.there e));
        flat = flat;
        vars = refl;
        bound = r.bound;
        head = r.head;
        one = one;
        free = term.free;
        guard = guard;
        rows = r.rows;
        rowed = r.rowed;
        case = one_placed (rule_words names) f n k r.rows r.bound (IsOf names f r.rows r.bound)
            (λ now b. (b.func, b.rows, b.has)) (λ old now e same b. (b.func ∙ e, b.rows ∙ same, b.has)) before.branches r.branches r.cased;
      } in
      record {
        branches = branches;
        clauses = All-append (ClauseSays names r.branches) before.clauses (record { func = f; clause = k } ∷ [])
            (All-weaker (ClauseSays names before.branches) (ClauseSays names r.branches)
            (λ j says. clause_kept names before.branches r.branches j
            (λ rows bound any. any_placed (rule_words names) f n k r.rows r.bound (IsOf names j.func rows bound) (λ old now is b. kept_case names j.func rows bound r.bound old now is b) before.branches r.branches r.cased any) says)
            before.clauses all.clauses)
            (All-cons (ClauseSays names r.branches) (record { func = f; clause = k }) [] here (All-nil (ClauseSays names r.branches)));
      }

  say_more : (done : List FlatClause) (before : Ruled) (c : FlatClause) (after : Ruled) → Contains clauses c → AllSay names before → Read names monotone before c after → AllSay names after
  say_more done before c after among all (inl r) = subst (AllSay names) r.is (record { branches = all.branches; clauses = all.clauses })
  say_more done before c after among all (inr (inl r)) = subst (AllSay names) r.is (case_says before c after among all r)
  say_more done before c after among all (inr (inr r)) = subst (AllSay names) r.is (record { branches = all.branches; clauses = all.clauses })

  pub all_say : AllSay names ruled
  all_say = all_keep names monotone (Contains clauses) (λ done r. AllSay names r) say_more [] clauses nothing_ruled ruled (All-contains_itself clauses) (nothing_says names) are.ruled_is

  branch_fit : (b : Branch) → BranchSays names b → BranchIsFit b
  branch_fit b says =
      let s = num_signature names b.func says.has.num in
      record {
        rows = rows_fit (rule_words names) b.guard b.rows (All-weaker (IsRuleAtom names b.args) (IsRowed (rule_words names)) (atom_rowed names b.args) b.guard says.has.guard) says.has.rowed;
        gap = by b.gap refl;
        few = subst (λ n. n ≤ most_arguments) (sym (says.has.args s.signature s.there)) (all_get HasFewArguments names.signatures b.func s.signature are.few s.there);
      }
    where
      by : (o : Option NumLit) → b.gap ≡ o → IsFitGap o
      by None e = tt
      by (Some r) e = says.has.gap r e

pub branches_fit : FlattenedIsFlat → FlattenedHasOne → BranchesAreFit
branches_fit flatten has_one names clauses ruled are =
    All-weaker (BranchSays names) BranchIsFit (branch_fit flatten has_one names clauses ruled are) ruled.branches (all_say flatten has_one names clauses ruled are).branches
