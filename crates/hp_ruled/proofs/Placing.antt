-- Cases of functions while bounds are placed in them.
use Rattle.std.proofs.Common.{◌≡◌, ℕ, List, [], ◌∷◌, Bool, true, false, ◌&&◌, Option, Some, None, Ok, Err, arith, ℤ, refl, sym, ap, subst, ◌∙◌, ◌⊎◌, inl, inr}
use Rattle.std.specs.Prelude.{if◌then◌else◌, option_map, nat_eq}
use Rattle.std.specs.List.{All}
use Rattle.std.specs.Ordering.{int_eq}
use Rattle.std.proofs.lemmas.Bool.{and_parts, eqb-true}
use Rattle.std.proofs.lemmas.List.Elements.{All-cons, All-head, All-nil, All-tail}
use Rattle.std.proofs.lemmas.Int.{ints}
use Rattle.hp_tree.specs.declared.term.Term.{Term}
use Rattle.hp_tree.specs.Value.{Word}
use Rattle.hp_lit.specs.declared.literal.NumLit.{NumLit}
use Rattle.hp_lit.specs.declared.literal.Part.{Part}
use Rattle.hp_lit.specs.declared.literal.Rel.{Rel}
use Rattle.hp_lit.specs.declared.literal.Rel.TheVariants as rel
use Rattle.hp_linear.specs.Steps.{Refusable}
use Rattle.hp_norm.specs.declared.flat.FlatClause.{FlatClause}
use Rattle.hp_cases.specs.declared.case.Bound.{Bound}
use Rattle.hp_cases.specs.declared.case.Bound.TheVariants.{Low, High, Same}
use Rattle.hp_cases.specs.Cases.{HasBound, bound_term}
use Rattle.hp_pairs.specs.declared.branch.Branch.{Branch}
use Rattle.hp_pairs.specs.declared.branch.Given.{Given}
use Rattle.hp_rules.specs.Rules.{behind_branch, bounded, first_row, gap_of, given as given_by, new_branch, same_parts, same_rel, same_row, same_rows, with_bound, with_case, with_gap, with_high, with_low, with_same}
use Rattle.hp_ruled.specs.Laws.{case_of}

-- ---- equal rows
int_eq-means : (a b : ℤ) → int_eq a b ≡ true → a ≡ b
int_eq-means a b h = grind (arith, ints)

rels_are : (r s : Rel) → same_rel r s ≡ true → r ≡ s
rels_are rel.Le rel.Le e = refl
rels_are rel.Le rel.Lt e = absurd (cc)
rels_are rel.Le rel.Eq e = absurd (cc)
rels_are rel.Lt rel.Le e = absurd (cc)
rels_are rel.Lt rel.Lt e = refl
rels_are rel.Lt rel.Eq e = absurd (cc)
rels_are rel.Eq rel.Le e = absurd (cc)
rels_are rel.Eq rel.Lt e = absurd (cc)
rels_are rel.Eq rel.Eq e = refl

parts_are : (ps qs : List Part) → same_parts ps qs ≡ true → ps ≡ qs
parts_are [] [] e = refl
parts_are [] (q ∷ qs) e = absurd (cc)
parts_are (p ∷ ps) [] e = absurd (cc)
parts_are (p ∷ ps) (q ∷ qs) e =
    let both = and_parts (nat_eq p.name.0 q.name.0 && int_eq p.coef q.coef) (same_parts ps qs) e in
    let first = and_parts (nat_eq p.name.0 q.name.0) (int_eq p.coef q.coef) both.0 in
    let name = eqb-true p.name.0 q.name.0 first.0 in
    let coef = int_eq-means p.coef q.coef first.1 in
    λ i. record { name = record { 0 = name i }; coef = coef i } ∷ parts_are ps qs both.1 i

row_is : (l m : NumLit) → same_row l m ≡ true → l ≡ m
row_is l m e =
    let both = and_parts (same_rel l.rel m.rel && same_parts l.parts m.parts) (int_eq l.bound m.bound) e in
    let first = and_parts (same_rel l.rel m.rel) (same_parts l.parts m.parts) both.0 in
    let r = rels_are l.rel m.rel first.0 in
    let p = parts_are l.parts m.parts first.1 in
    let b = int_eq-means l.bound m.bound both.1 in
    λ i. record { rel = r i; parts = p i; bound = b i }

pub rows_same : (ls ms : List NumLit) → same_rows ls ms ≡ true → ls ≡ ms
rows_same [] [] e = refl
rows_same [] (m ∷ ms) e = absurd (cc)
rows_same (l ∷ ls) [] e = absurd (cc)
rows_same (l ∷ ls) (m ∷ ms) e =
    let both = and_parts (same_row l m) (same_rows ls ms) e in
    λ i. row_is l m both.0 i ∷ rows_same ls ms both.1 i

-- ---- a further bound
-- the row of the gap, where two clauses give the bounds
pub record HasGap (words : List Word) (b : Branch) (low high : Given) : Type 0 where
  pub rows : List NumLit
  pub gap : b.gap ≡ first_row rows
  pub formed : gap_of words low.term high.term ≡ Ok rows

abbrev pub GapIs : List Word → Branch → Given → Given → Type 0
GapIs words b low high = (low.term ≡ high.term) ⊎ HasGap words b low high

pub record Bounded (words : List Word) (bound : Bound) (old now : Branch) : Type 0 where
  pub func : now.func ≡ old.func
  pub args : now.args ≡ old.args
  pub guard : now.guard ≡ old.guard
  pub rows : now.rows ≡ old.rows
  pub low : (g : Given) → old.low ≡ Some g → now.low ≡ Some g
  pub high : (g : Given) → old.high ≡ Some g → now.high ≡ Some g
  pub has : HasBound (case_of now) bound
  pub lows : (g : Given) → now.low ≡ Some g → (old.low ≡ Some g) ⊎ (bound_term bound ≡ g.term)
  pub highs : (g : Given) → now.high ≡ Some g → (old.high ≡ Some g) ⊎ (bound_term bound ≡ g.term)
  pub gapped : (l h : Given) → now.low ≡ Some l → now.high ≡ Some h → GapIs words now l h
  pub gaps : (r : NumLit) → now.gap ≡ Some r → (old.gap ≡ Some r) ⊎ ((l : Given) × (h : Given) × (now.low ≡ Some l) × (now.high ≡ Some h) × HasGap words now l h)

module _ (words : List Word) (clause : ℕ) (old now : Branch) where
  some_is : (g h : Given) → Some g ≡ Some h → g ≡ h
  some_is g h e = cc

  term_is : (t : Term) (g : Given) → Some (given_by clause t) ≡ Some g → t ≡ g.term
  term_is t g e = ap (λ (x : Given). x.term) (some_is (given_by clause t) g e)

  -- a lower bound
  low_alone : (t : Term) → old.low ≡ None → old.high ≡ None → Bounded words (Low t) old (bounded old (Some (given_by clause t)) None)
  low_alone t lo hi = record {
    func = refl;
    args = refl;
    guard = refl;
    rows = refl;
    low = λ g e. absurd (cc);
    high = λ g e. absurd (cc);
    has = refl;
    lows = λ g e. inr (term_is t g e);
    highs = λ g e. absurd (cc);
    gapped = λ l h e f. absurd (cc);
    gaps = λ r e. inl e;
  }

  high_alone : (t : Term) → old.low ≡ None → old.high ≡ None → Bounded words (High t) old (bounded old None (Some (given_by clause t)))
  high_alone t lo hi = record {
    func = refl;
    args = refl;
    guard = refl;
    rows = refl;
    low = λ g e. absurd (cc);
    high = λ g e. absurd (cc);
    has = refl;
    lows = λ g e. absurd (cc);
    highs = λ g e. inr (term_is t g e);
    gapped = λ l h e f. absurd (cc);
    gaps = λ r e. inl e;
  }

  abbrev gapped_with : Option Given → Option Given → List NumLit → Branch
  gapped_with low high rows = record { func = old.func; args = old.args; clause = old.clause; guard = old.guard; rows = old.rows; low = low; high = high; gap = first_row rows }

  has_gap : (low high l h : Given) (rows : List NumLit) → gap_of words low.term high.term ≡ Ok rows → Some low ≡ Some l → Some high ≡ Some h → HasGap words (gapped_with (Some low) (Some high) rows) l h
  has_gap low high l h rows e f g =
      record { rows = rows; gap = refl; formed = (λ i. gap_of words (sym (some_is low l f) i).term (sym (some_is high h g) i).term) ∙ e }

  low_under : (t : Term) (high : Given) (rows : List NumLit) → old.low ≡ None → old.high ≡ Some high → gap_of words t high.term ≡ Ok rows
      → Bounded words (Low t) old (gapped_with (Some (given_by clause t)) (Some high) rows)
  low_under t high rows lo hi e = record {
    func = refl;
    args = refl;
    guard = refl;
    rows = refl;
    low = λ g e. absurd (cc);
    high = λ g f. sym hi ∙ f;
    has = refl;
    lows = λ g f. inr (term_is t g f);
    highs = λ g f. inl (hi ∙ f);
    gapped = λ l h f g. inr (has_gap (given_by clause t) high l h rows e f g);
    gaps = λ r f. inr (given_by clause t, high, refl, refl, has_gap (given_by clause t) high (given_by clause t) high rows e refl refl);
  }

  high_over : (t : Term) (low : Given) (rows : List NumLit) → old.low ≡ Some low → old.high ≡ None → gap_of words low.term t ≡ Ok rows
      → Bounded words (High t) old (gapped_with (Some low) (Some (given_by clause t)) rows)
  high_over t low rows lo hi e = record {
    func = refl;
    args = refl;
    guard = refl;
    rows = refl;
    low = λ g f. sym lo ∙ f;
    high = λ g e. absurd (cc);
    has = refl;
    lows = λ g f. inl (lo ∙ f);
    highs = λ g f. inr (term_is t g f);
    gapped = λ l h f g. inr (has_gap low (given_by clause t) l h rows e f g);
    gaps = λ r f. inr (low, given_by clause t, refl, refl, has_gap low (given_by clause t) low (given_by clause t) rows e refl refl);
  }

  same_both : (t : Term) → old.low ≡ None → old.high ≡ None → Bounded words (Same t) old (bounded old (Some (given_by clause t)) (Some (given_by clause t)))
  same_both t lo hi = record {
    func = refl;
    args = refl;
    guard = refl;
    rows = refl;
    low = λ g e. absurd (cc);
    high = λ g e. absurd (cc);
    has = (refl, refl);
    lows = λ g e. inr (term_is t g e);
    highs = λ g e. inr (term_is t g e);
    gapped = λ l h e f. inl (sym (term_is t l e) ∙ term_is t h f);
    gaps = λ r e. inl e;
  }

  now_is : (bound : Bound) (b : Branch) → Some b ≡ Some now → Bounded words bound old b → Bounded words bound old now
  now_is bound b e h = let is : b ≡ now = cc in subst (λ n. Bounded words bound old n) is h

  by_low : (t : Term) (lo hi : Option Given) → old.low ≡ lo → old.high ≡ hi → with_low words clause t old lo hi ≡ Some now → Bounded words (Low t) old now
  by_low t (Some low) hi l h e = absurd (cc)
  by_low t None None l h e = now_is (Low t) (bounded old (Some (given_by clause t)) None) e (low_alone t l h)
  by_low t None (Some high) l h e = gap (gap_of words t high.term) refl e
    where
      gap : (r : Refusable (List NumLit)) → gap_of words t high.term ≡ r → with_gap (bounded old (Some (given_by clause t)) (Some high)) r ≡ Some now → Bounded words (Low t) old now
      gap (Ok rows) g f = now_is (Low t) (gapped_with (Some (given_by clause t)) (Some high) rows) f (low_under t high rows l h g)
      gap (Err x) g f = absurd (cc)

  by_high : (t : Term) (lo hi : Option Given) → old.low ≡ lo → old.high ≡ hi → with_high words clause t old lo hi ≡ Some now → Bounded words (High t) old now
  by_high t None None l h e = now_is (High t) (bounded old None (Some (given_by clause t))) e (high_alone t l h)
  by_high t None (Some high) l h e = absurd (cc)
  by_high t (Some low) (Some high) l h e = absurd (cc)
  by_high t (Some low) None l h e = gap (gap_of words low.term t) refl e
    where
      gap : (r : Refusable (List NumLit)) → gap_of words low.term t ≡ r → with_gap (bounded old (Some low) (Some (given_by clause t))) r ≡ Some now → Bounded words (High t) old now
      gap (Ok rows) g f = now_is (High t) (gapped_with (Some low) (Some (given_by clause t)) rows) f (high_over t low rows l h g)
      gap (Err x) g f = absurd (cc)

  by_same : (t : Term) (lo hi : Option Given) → old.low ≡ lo → old.high ≡ hi → with_same clause t old lo hi ≡ Some now → Bounded words (Same t) old now
  by_same t None None l h e = now_is (Same t) (bounded old (Some (given_by clause t)) (Some (given_by clause t))) e (same_both t l h)
  by_same t None (Some high) l h e = absurd (cc)
  by_same t (Some low) None l h e = absurd (cc)
  by_same t (Some low) (Some high) l h e = absurd (cc)

  pub bound_given : (bound : Bound) → with_bound words clause bound old ≡ Some now → Bounded words bound old now
  bound_given (Low t) e = by_low t old.low old.high refl refl e
  bound_given (High t) e = by_high t old.low old.high refl refl e
  bound_given (Same t) e = by_same t old.low old.high refl refl e

-- ---- the cases of all functions
abbrev pub Any : (Branch → Type 0) → List Branch → Type 0
Any P [] = ⊥
Any P (b ∷ bs) = P b ⊎ Any P bs

module _ (words : List Word) (func args : ℕ) (c : FlatClause) (rows : List NumLit) (bound : Bound) where
  abbrev fresh : Branch
  fresh = new_branch func args c rows

  abbrev place : List Branch → Option (List Branch)
  place bs = with_case words func args c rows bound bs

  module _ (P : Branch → Type 0) (first : (now : Branch) → Bounded words bound fresh now → P now)
      (more : (old now : Branch) → old.func ≡ func → old.rows ≡ rows → P old → Bounded words bound old now → P now) where
    alone : (o : Option Branch) (new : List Branch) → with_bound words c.clause bound fresh ≡ o → option_map (λ b. b ∷ []) o ≡ Some new → All P new
    alone None new e f = absurd (cc)
    alone (Some b) new e f = let is : b ∷ [] ≡ new = cc in subst (All P) is (All-cons P b [] (first b (bound_given words c.clause fresh b bound e)) (All-nil P))

    changed : (b : Branch) (bs : List Branch) (o : Option Branch) (new : List Branch) → (nat_eq b.func func && same_rows b.rows rows) ≡ true → All P (b ∷ bs)
        → with_bound words c.clause bound b ≡ o → option_map (λ x. x ∷ bs) o ≡ Some new → All P new
    changed b bs None new t all e f = absurd (cc)
    changed b bs (Some x) new t all e f =
        let both = and_parts (nat_eq b.func func) (same_rows b.rows rows) t in
        let is : x ∷ bs ≡ new = cc in
        subst (All P) is (All-cons P x bs
        (more b x (eqb-true b.func func both.0) (rows_same b.rows rows both.1) (All-head P b bs all) (bound_given words c.clause b x bound e)) (All-tail P b bs all))

    pub all_placed : (bs new : List Branch) → place bs ≡ Some new → All P bs → All P new
    all_placed [] new e all = alone (with_bound words c.clause bound fresh) new refl e
    all_placed (b ∷ bs) new e all = by (λ ns f. all_placed bs ns f (All-tail P b bs all)) (nat_eq b.func func && same_rows b.rows rows) refl e
      where
        later : ((ns : List Branch) → place bs ≡ Some ns → All P ns) → (o : Option (List Branch)) → place bs ≡ o → behind_branch b o ≡ Some new → All P new
        later rest None f g = absurd (cc)
        later rest (Some ns) f g = let is : b ∷ ns ≡ new = cc in subst (All P) is (All-cons P b ns (All-head P b bs all) (rest ns f))

        by : ((ns : List Branch) → place bs ≡ Some ns → All P ns) → (t : Bool) → (nat_eq b.func func && same_rows b.rows rows) ≡ t
            → (if t then option_map (λ x. x ∷ bs) (with_bound words c.clause bound b) else behind_branch b (place bs)) ≡ Some new → All P new
        by rest true t f = changed b bs (with_bound words c.clause bound b) new t all refl f
        by rest false t f = later rest (place bs) refl f

  -- one of the cases has the bound
  module _ (P : Branch → Type 0) (first : (now : Branch) → Bounded words bound fresh now → P now)
      (more : (old now : Branch) → old.func ≡ func → old.rows ≡ rows → Bounded words bound old now → P now) where
    new_alone : (o : Option Branch) (new : List Branch) → with_bound words c.clause bound fresh ≡ o → option_map (λ b. b ∷ []) o ≡ Some new → Any P new
    new_alone None new e f = absurd (cc)
    new_alone (Some b) new e f = let is : b ∷ [] ≡ new = cc in subst (Any P) is (inl (first b (bound_given words c.clause fresh b bound e)))

    new_changed : (b : Branch) (bs : List Branch) (o : Option Branch) (new : List Branch) → (nat_eq b.func func && same_rows b.rows rows) ≡ true
        → with_bound words c.clause bound b ≡ o → option_map (λ x. x ∷ bs) o ≡ Some new → Any P new
    new_changed b bs None new t e f = absurd (cc)
    new_changed b bs (Some x) new t e f =
        let both = and_parts (nat_eq b.func func) (same_rows b.rows rows) t in
        let is : x ∷ bs ≡ new = cc in
        subst (Any P) is (inl (more b x (eqb-true b.func func both.0) (rows_same b.rows rows both.1) (bound_given words c.clause b x bound e)))

    pub one_placed : (bs new : List Branch) → place bs ≡ Some new → Any P new
    one_placed [] new e = new_alone (with_bound words c.clause bound fresh) new refl e
    one_placed (b ∷ bs) new e = by (λ ns f. one_placed bs ns f) (nat_eq b.func func && same_rows b.rows rows) refl e
      where
        later : ((ns : List Branch) → place bs ≡ Some ns → Any P ns) → (o : Option (List Branch)) → place bs ≡ o → behind_branch b o ≡ Some new → Any P new
        later rest None f g = absurd (cc)
        later rest (Some ns) f g = let is : b ∷ ns ≡ new = cc in subst (Any P) is (inr (rest ns f))

        by : ((ns : List Branch) → place bs ≡ Some ns → Any P ns) → (t : Bool) → (nat_eq b.func func && same_rows b.rows rows) ≡ t
            → (if t then option_map (λ x. x ∷ bs) (with_bound words c.clause bound b) else behind_branch b (place bs)) ≡ Some new → Any P new
        by rest true t f = new_changed b bs (with_bound words c.clause bound b) new t refl f
        by rest false t f = later rest (place bs) refl f

  -- what one of the cases had goes on
  module _ (P : Branch → Type 0) (keep : (old now : Branch) → P old → Bounded words bound old now → P now) where
    kept_changed : (b : Branch) (bs : List Branch) (o : Option Branch) (new : List Branch) → Any P (b ∷ bs)
        → with_bound words c.clause bound b ≡ o → option_map (λ x. x ∷ bs) o ≡ Some new → Any P new
    kept_changed b bs None new any e f = absurd (cc)
    kept_changed b bs (Some x) new any e f =
        let is : x ∷ bs ≡ new = cc in
        subst (Any P) is (elim any [ inl p ↦ inl (keep b x p (bound_given words c.clause b x bound e)) | inr q ↦ inr q ])

    pub any_placed : (bs new : List Branch) → place bs ≡ Some new → Any P bs → Any P new
    any_placed [] new e any = absurd any
    any_placed (b ∷ bs) new e any = by (λ ns f q. any_placed bs ns f q) (nat_eq b.func func && same_rows b.rows rows) refl e
      where
        later : ((ns : List Branch) → place bs ≡ Some ns → Any P bs → Any P ns) → (o : Option (List Branch)) → place bs ≡ o → behind_branch b o ≡ Some new → Any P new
        later rest None f g = absurd (cc)
        later rest (Some ns) f g = let is : b ∷ ns ≡ new = cc in subst (Any P) is (elim any [ inl p ↦ inl p | inr q ↦ inr (rest ns f q) ])

        by : ((ns : List Branch) → place bs ≡ Some ns → Any P bs → Any P ns) → (t : Bool) → (nat_eq b.func func && same_rows b.rows rows) ≡ t
            → (if t then option_map (λ x. x ∷ bs) (with_bound words c.clause bound b) else behind_branch b (place bs)) ≡ Some new → Any P new
        by rest true t f = kept_changed b bs (with_bound words c.clause bound b) new any refl f
        by rest false t f = later rest (place bs) refl f
