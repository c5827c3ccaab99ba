-- The groups of single functions, by the class of each: what the laws of the trait ask of them.
use Rattle.std.proofs.Common.{◌≡◌, ◌∙◌, ◌⊎◌, inl, inr, ℕ, zero, suc, List, [], ◌∷◌, map, Bool, true, false, if◌then◌else◌, Option, Some, None, refl, sym, ap, subst}
use Rattle.std.specs.Prelude.{nat_eq, option_and_then, slice_get}
use Rattle.std.specs.List.{All, Contains, filter}
use Rattle.std.proofs.lemmas.Bool.{eq-eqb, eqb-true}
use Rattle.std.proofs.lemmas.List.Elements.{All-cons, All-contains, All-head, All-nil}
use Rattle.std.proofs.lemmas.Option.{none-some, same_Some, slice_get-get_or}
use Rattle.hp_tree.specs.Value.{Environment, Functions}
use Rattle.hp_model.specs.declared.structure.Table.{Table}
use Rattle.hp_lit.specs.Truth.{Values}
use Rattle.hp_local.proofs.Lists.{All-by, contains_cases, contains_first, contains_later, contains_none}
use Rattle.hp_defs.specs.declared.names.Signature.{Signature}
use Rattle.hp_defs.specs.Names.{NameList}
use Rattle.hp_norm.specs.declared.flat.FlatClause.{FlatClause}
use Rattle.hp_norm.specs.Flat.{IsFlat}
use Rattle.hp_shapes.specs.declared.shape.Form.{Form}
use Rattle.hp_shapes.specs.Shapes.{form_of}
use Rattle.hp_class.specs.Groups.{IsClass}
use Rattle.hp_class.specs.Small.{HasFewArguments}
use Rattle.hp_flatten.specs.Flattening.{flattened}
use Rattle.hp_flatten.proofs.Holds.{flattened_holds}
use Rattle.hp_flatten.proofs.IsFlat.{flattened_is_flat}
use Rattle.hp_flatten.proofs.One.{flattened_has_one}
use Rattle.hp_pairs.specs.declared.branch.Branch.{Branch}
use Rattle.hp_pairs.specs.Branches.{branches_of}
use Rattle.hp_points.specs.Made.{free_at, monotone_at}
use Rattle.hp_by_cases.specs.Made.{cases_at}
use Rattle.hp_rules.specs.declared.ruled.CaseClause.{CaseClause}
use Rattle.hp_rules.specs.declared.ruled.Ruled.{Ruled}
use Rattle.hp_rules.specs.Rules.{is_array, monotone_place}
use Rattle.hp_ruled.specs.Laws.{IsFromClause, IsOfCases, case_of, cases_of, clause_of, clauses_of}
use Rattle.hp_ruled.proofs.Arrays.{arrays_are_known}
use Rattle.hp_ruled.proofs.ByCases.{functions_by_cases}
use Rattle.hp_ruled.proofs.Owning.{cases_own, monotone_once}
use Rattle.hp_ruled.proofs.Sources.{cases_from}
use Rattle.hp_groups.specs.declared.group.Group.{Group}
use Rattle.hp_groups.specs.declared.group.Group.TheVariants.{Cases, Free, Monotone}
use Rattle.hp_groups.specs.contracts.group.GroupLocalClass.TheImpl.{ghosts}
use Rattle.hp_groups.specs.contracts.group.GroupLocalClass.TheImpl.Laws as laws
use Rattle.hp_groups.specs.Groups.{Reading, by_branches, group_among, group_from, group_with}
use Rattle.hp_groups.specs.Laws.{HoldsFlat, IsReadable}
use Rattle.hp_ruled.proofs.Shapes.{form_place, place_form}
use Rattle.hp_ruled.proofs.Shapes.{form_nums}

-- ---- the group of a function
-- it is free, by cases that it has, or monotone by one of the clauses with the form over it
cases_by : (P : Group → Type 0) (func : ℕ) (s : Signature) (ruled : Ruled) → P (Free (free_at func s))
    → ((branches_of func ruled.branches ≡ [] → ⊥) → P (Cases (cases_at func s (clauses_of func ruled.clauses) (cases_of func ruled.branches) [])))
    → P (by_branches func s ruled (branches_of func ruled.branches))
cases_by P func s ruled free cases = by (branches_of func ruled.branches) refl
  where
    some : (b : Branch) (bs : List Branch) → b ∷ bs ≡ [] → ⊥
    some b bs e = cc

    by : (bs : List Branch) → branches_of func ruled.branches ≡ bs → P (by_branches func s ruled bs)
    by [] e = free
    by (b ∷ bs) e =
        subst (λ (own : List Branch). P (Cases (cases_at func s (clauses_of func ruled.clauses) (map case_of own) []))) e (cases (λ none. some b bs (sym e ∙ none)))

among_by : (P : Group → Type 0) (func : ℕ) (s : Signature) (ruled : Ruled) (clauses : List FlatClause) → P (by_branches func s ruled (branches_of func ruled.branches))
    → ((c : FlatClause) (form : Form) → Contains clauses c → form_of s.name c.vars c.guard c.head ≡ Some form → P (Monotone (monotone_at func s c form))) → P (group_among func s ruled clauses)
among_by P func s ruled [] other monotone = other
among_by P func s ruled (c ∷ cs) other monotone =
    by (among_by P func s ruled cs other (λ d form m. monotone d form (contains_later c cs d m))) (form_of s.name c.vars c.guard c.head) refl
  where
    by : P (group_among func s ruled cs) → (o : Option Form) → form_of s.name c.vars c.guard c.head ≡ o → P (group_with func s c o (group_among func s ruled cs))
    by rest None e = rest
    by rest (Some form) e = monotone c form (contains_first c cs) e

pub group_by : (P : Group → Type 0) (func : ℕ) (s : Signature) (read : Reading) → P (Free (free_at func s))
    → ((branches_of func read.ruled.branches ≡ [] → ⊥) → P (Cases (cases_at func s (clauses_of func read.ruled.clauses) (cases_of func read.ruled.branches) [])))
    → ((c : FlatClause) (form : Form) → Contains read.flats c → form_of s.name c.vars c.guard c.head ≡ Some form → P (Monotone (monotone_at func s c form))) → P (group_from func s read)
group_by P func s read free cases monotone = among_by P func s read.ruled read.flats (cases_by P func s read.ruled free cases) monotone

pub own_is : (func : ℕ) (s : Signature) (read : Reading) → ghosts.own (group_from func s read) ≡ func ∷ []
own_is func s read = group_by (λ (g : Group). ghosts.own g ≡ func ∷ []) func s read refl (λ some. refl) (λ c form m e. refl)

pub applied_none : (func : ℕ) (s : Signature) (read : Reading) → ghosts.applied (group_from func s read) ≡ []
applied_none func s read = group_by (λ (g : Group). ghosts.applied g ≡ []) func s read refl (λ some. refl) (λ c form m e. refl)

only : {X : Type 0} (x y : X) → Contains (x ∷ []) y → x ≡ y
only x y m = elim (contains_cases x [] y m) [ inl e ↦ e | inr none ↦ absurd (contains_none y none) ]

-- a group of one function has one table
pub single_table : (func : ℕ) (s : Signature) (read : Reading) (size : ℕ) (names : NameList) (v : Values) → (table : Table) × (ghosts.tables_of (group_from func s read) size names v ≡ table ∷ [])
single_table func s read size names v =
    group_by (λ (g : Group). (table : Table) × (ghosts.tables_of g size names v ≡ table ∷ [])) func s read (_, refl) (λ some. (_, refl)) (λ c form m e. (_, refl))

-- those of a function are among all of cases
own_among : (func : ℕ) (ks : List CaseClause) (c : FlatClause) → Contains (clauses_of func ks) c → (k : CaseClause) × Contains ks k × (k.func ≡ func) × (k.clause ≡ c)
own_among func [] c m = absurd (contains_none c m)
own_among func (k ∷ ks) c m = by (nat_eq k.func func) refl m (λ later. own_among func ks c later)
  where
    Own : List CaseClause → Type 0
    Own all = (l : CaseClause) × Contains all l × (l.func ≡ func) × (l.clause ≡ c)

    up : Own ks → Own (k ∷ ks)
    up h = (h.0, contains_later k ks h.0 h.1, h.2, h.3)

    by : (b : Bool) → nat_eq k.func func ≡ b → Contains (map clause_of (if b then k ∷ filter (λ l. nat_eq l.func func) ks else filter (λ l. nat_eq l.func func) ks)) c
        → (Contains (clauses_of func ks) c → Own ks) → Own (k ∷ ks)
    by true e n rest =
        elim (contains_cases (clause_of k) (clauses_of func ks) c n) [ inl same ↦ (k, contains_first k ks, eqb-true k.func func e, same) | inr later ↦ up (rest later) ]
    by false e n rest = up (rest n)

among_own : (func : ℕ) (ks : List CaseClause) (k : CaseClause) → Contains ks k → k.func ≡ func → Contains (clauses_of func ks) k.clause
among_own func [] k m e = absurd (contains_none k m)
among_own func (l ∷ ks) k m e = by (nat_eq l.func func) refl (contains_cases l ks k m) (λ later. among_own func ks k later e)
  where
    by : (b : Bool) → nat_eq l.func func ≡ b → (l ≡ k) ⊎ Contains ks k → (Contains ks k → Contains (clauses_of func ks) k.clause)
        → Contains (map clause_of (if b then l ∷ filter (λ j. nat_eq j.func func) ks else filter (λ j. nat_eq j.func func) ks)) k.clause
    by true t (inl same) rest = subst (Contains (clause_of l ∷ clauses_of func ks)) (ap clause_of same) (contains_first (clause_of l) (clauses_of func ks))
    by true t (inr later) rest = contains_later (clause_of l) (clauses_of func ks) k.clause (rest later)
    by false t (inl same) rest =
        let other : false ≡ true = sym t ∙ eq-eqb l.func func (ap (λ (j : CaseClause). j.func) same ∙ e) in
        absurd (cc)
    by false t (inr later) rest = rest later

-- all clauses of a group hold where all clauses do
pub group_holds : (names : NameList) (read : Reading) → IsReadable names read → (size : ℕ) (env : Environment) (functions : Functions) → All (HoldsFlat size env functions) read.flats
    → (func : ℕ) (s : Signature) → All (HoldsFlat size env functions) (ghosts.clauses (group_from func s read))
group_holds names read is size env functions all func s =
    group_by (λ (g : Group). All H (ghosts.clauses g)) func s read (All-nil H) (λ some. All-by H (clauses_of func read.ruled.clauses) of_case)
    (λ c form m e. All-cons H c [] (All-contains H read.flats c all m) (All-nil H))
  where
    H : FlatClause → Type 0
    H = HoldsFlat size env functions

    of_case : (c : FlatClause) → Contains (clauses_of func read.ruled.clauses) c → H c
    of_case c m =
        let own = own_among func read.ruled.clauses c m in
        let from = All-contains (IsFromClause names read.flats) read.ruled.clauses own.0 (cases_from names read.flats read.ruled is.ruled) own.1 in
        let holds = flattened_holds names from.source from.application size env functions from.able in
        subst H (sym from.is ∙ own.3) (holds.0 (All-contains H read.flats from.source all from.among))

-- ---- functions that are no arrays
monotone_other : (names : NameList) (read : Reading) → IsReadable names read → (c : FlatClause) → Contains read.flats c → (func : ℕ) → monotone_place names c ≡ Some func → is_array read.ruled func ≡ false
monotone_other names read is c m func e = by (is_array read.ruled func) refl
  where
    by : (b : Bool) → is_array read.ruled func ≡ b → is_array read.ruled func ≡ false
    by false h = h
    by true h = absurd ((arrays_are_known names read.flats read.ruled is.ruled func h).no_monotone c m e)

cases_other : (names : NameList) (read : Reading) → IsReadable names read → (func : ℕ) → (branches_of func read.ruled.branches ≡ [] → ⊥) → is_array read.ruled func ≡ false
cases_other names read is func some = by (is_array read.ruled func) refl
  where
    by : (b : Bool) → is_array read.ruled func ≡ b → is_array read.ruled func ≡ false
    by false h = h
    by true h = absurd (some (arrays_are_known names read.flats read.ruled is.ruled func h).no_cases)

-- a function that is no array, and from the clauses of whose group a clause follows
pub record IsHeldAlone (names : NameList) (read : Reading) (c : FlatClause) : Type 0 where
  pub func : ℕ
  pub signature : Signature
  pub known : slice_get names.signatures func ≡ Some signature
  pub other : is_array read.ruled func ≡ false
  pub held : (size : ℕ) (env : Environment) (functions : Functions) → All (HoldsFlat size env functions) (ghosts.clauses (group_from func signature read)) → HoldsFlat size env functions c

-- a function with a clause of monotone shape has the first one of these
record IsMonotoneBy (func : ℕ) (s : Signature) (ruled : Ruled) (clauses : List FlatClause) : Type 0 where
  clause : FlatClause
  form : Form
  among : Contains clauses clause
  shape : form_of s.name clause.vars clause.guard clause.head ≡ Some form
  is : group_among func s ruled clauses ≡ Monotone (monotone_at func s clause form)

monotone_by : (func : ℕ) (s : Signature) (ruled : Ruled) (clauses : List FlatClause) (c : FlatClause) (form : Form) → Contains clauses c → form_of s.name c.vars c.guard c.head ≡ Some form
    → IsMonotoneBy func s ruled clauses
monotone_by func s ruled [] c form m e = absurd (contains_none c m)
monotone_by func s ruled (d ∷ ds) c form m e = by (form_of s.name d.vars d.guard d.head) refl (contains_cases d ds c m) (λ later. monotone_by func s ruled ds c form later e)
  where
    by : (o : Option Form) → form_of s.name d.vars d.guard d.head ≡ o → (d ≡ c) ⊎ Contains ds c → (Contains ds c → IsMonotoneBy func s ruled ds) → IsMonotoneBy func s ruled (d ∷ ds)
    by (Some f) h here rest =
        record { clause = d; form = f; among = contains_first d ds; shape = h; is = ap (λ (o : Option Form). group_with func s d o (group_among func s ruled ds)) h }
    by None h (inl same) rest = absurd (none-some form (sym h ∙ ap (λ (x : FlatClause). form_of s.name x.vars x.guard x.head) same ∙ e))
    by None h (inr later) rest =
        let r = rest later in
        record {
          clause = r.clause;
          form = r.form;
          among = contains_later d ds r.clause r.among;
          shape = r.shape;
          is = ap (λ (o : Option Form). group_with func s d o (group_among func s ruled ds)) h ∙ r.is;
        }

same_clause : (names : NameList) (read : Reading) → IsReadable names read → (c d : FlatClause) (func : ℕ) → Contains read.flats c → Contains read.flats d → monotone_place names c ≡ Some func
    → monotone_place names d ≡ Some func → c ≡ d
same_clause names read is c d func m n e f =
    let at : slice_get read.flats m.0 ≡ Some c = there_at read.flats c m in
    let other : slice_get read.flats n.0 ≡ Some d = there_at read.flats d n in
    let same = monotone_once names read.flats read.ruled is.ruled m.0 n.0 func c d at other e f in
    same_Some c d (sym at ∙ ap (slice_get read.flats) same ∙ other)
  where
    there_at : (xs : List FlatClause) (x : FlatClause) (k : Contains xs x) → slice_get xs k.0 ≡ Some x
    there_at xs x k = slice_get-get_or xs k.0 x k.1 ∙ ap (λ (y : FlatClause). Some y) k.2

-- a clause of monotone shape is that of the group of its function
pub monotone_held : (names : NameList) (read : Reading) → IsReadable names read → (c : FlatClause) → Contains read.flats c → (func : ℕ) → monotone_place names c ≡ Some func → IsHeldAlone names read c
monotone_held names read is c m func e =
    let p = place_form names c func e in
    let by = monotone_by func p.signature read.ruled read.flats c p.form m p.is in
    let same = same_clause names read is by.clause c func by.among m (form_place names by.clause func p.signature by.form is.ruled.made p.known by.shape) e in
    record {
      func = func;
      signature = p.signature;
      known = p.known;
      other = monotone_other names read is c m func e;
      held = λ size env functions all. subst (HoldsFlat size env functions) same
          (All-head (HoldsFlat size env functions) by.clause [] (subst (λ (g : Group). All (HoldsFlat size env functions) (ghosts.clauses g)) by.is all));
    }

-- ---- functions with cases
none_among : (func : ℕ) (s : Signature) (ruled : Ruled) (clauses : List FlatClause) → ((c : FlatClause) → Contains clauses c → form_of s.name c.vars c.guard c.head ≡ None)
    → group_among func s ruled clauses ≡ by_branches func s ruled (branches_of func ruled.branches)
none_among func s ruled [] none = refl
none_among func s ruled (c ∷ cs) none =
    ap (λ (o : Option Form). group_with func s c o (group_among func s ruled cs)) (none c (contains_first c cs))
    ∙ none_among func s ruled cs (λ d m. none d (contains_later c cs d m))

-- no clause of such a function has monotone shape
by_cases : (names : NameList) (read : Reading) → IsReadable names read → (func : ℕ) (s : Signature) → slice_get names.signatures func ≡ Some s → (branches_of func read.ruled.branches ≡ [] → ⊥)
    → group_from func s read ≡ Cases (cases_at func s (clauses_of func read.ruled.clauses) (cases_of func read.ruled.branches) [])
by_cases names read is func s known some =
    none_among func s read.ruled read.flats (λ c m. none c m (form_of s.name c.vars c.guard c.head) refl) ∙ full (branches_of func read.ruled.branches) refl
  where
    none : (c : FlatClause) → Contains read.flats c → (o : Option Form) → form_of s.name c.vars c.guard c.head ≡ o → form_of s.name c.vars c.guard c.head ≡ None
    none c m None e = e
    none c m (Some form) e =
        absurd (some ((cases_own names read.flats read.ruled is.ruled func).no_monotone c m (form_place names c func s form is.ruled.made known e)))

    full : (bs : List Branch) → branches_of func read.ruled.branches ≡ bs → by_branches func s read.ruled bs ≡ Cases (cases_at func s (clauses_of func read.ruled.clauses) (map case_of bs) [])
    full [] e = absurd (some e)
    full (b ∷ bs) e = refl

pub case_held : (names : NameList) (read : Reading) → IsReadable names read → (c : FlatClause) → IsOfCases names read.ruled c → IsHeldAlone names read c
case_held names read is c of =
    let a = of.application in
    let known : slice_get names.signatures of.func ≡ Some of.able.signature = sym (ap (option_and_then (λ (at : ℕ). slice_get names.signatures at)) of.place) ∙ of.able.known in
    let own : CaseClause = record { func = of.func; clause = flattened a c } in
    let some = (cases_own names read.flats read.ruled is.ruled of.func).clauses_have own of.there refl in
    record {
      func = of.func;
      signature = of.able.signature;
      known = known;
      other = cases_other names read is of.func some;
      held = λ size env functions all. (
          let H : FlatClause → Type 0 = HoldsFlat size env functions in
          let cases = subst (λ (g : Group). All H (ghosts.clauses g)) (by_cases names read is of.func of.able.signature known some) all in
          (flattened_holds names c a size env functions of.able).1
          (All-contains H (clauses_of of.func read.ruled.clauses) (flattened a c) cases (among_own of.func read.ruled.clauses own of.there refl))
          );
    }

-- ---- names that groups were made for
pub group_lent : (names : NameList) (read : Reading) → IsReadable names read → (func : ℕ) (s : Signature) → slice_get names.signatures func ≡ Some s → HasFewArguments s
    → ghosts.IsLent (group_from func s read) names
group_lent names read is func s known few =
    group_by (λ (g : Group). ghosts.IsLent g names) func s read
    (record { signature = s; known = known; name = refl; arguments = refl; few = few; own = refl })
    (λ some. functions_by_cases flattened_is_flat flattened_has_one names read.flats read.ruled is.ruled is.unmet func s known some)
    (λ c form m e. (
    let nums = form_nums names read.flats read.ruled is.ruled func s known c form m e in
    record {
      signature = s;
      known = known;
      name = refl;
      arguments = nums.args;
      result = nums.result;
      shape = e;
      flat = All-contains (IsFlat names) read.flats c is.ruled.flat m;
      own = refl;
    }
    ))

pub there : {X : Type 0} (xs : List X) (k : ℕ) (x : X) → slice_get xs k ≡ Some x → Contains xs x
there [] k x e = absurd (none-some x e)
there (y ∷ ys) zero x e = subst (Contains (y ∷ ys)) (same_Some y x e) (contains_first y ys)
there (y ∷ ys) (suc k) x e = contains_later y ys x (there ys k x e)

-- ---- the laws of the class
pub groups_are_a_class : IsClass ghosts.grow_of ghosts.own ghosts.applied ghosts.clauses ghosts.plan_of ghosts.IsLent
groups_are_a_class = record { stays = laws.stays_lent-law; grows = laws.grows-law; fits = laws.plan_fits-law; applies = laws.applies-law }
