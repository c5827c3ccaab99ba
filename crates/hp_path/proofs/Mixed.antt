-- Literals of all sorts: what holds of those of each sort, and values for all of them from values for each.
use Rattle.std.proofs.Common.{◌≡◌, ℕ, ◌<◌, ◌≤◌, ◌++◌, ◌≢◌, sym, ◌∙◌, subst, arith, List, [], ◌∷◌, length, map, get_or, Option, Some, None}
use Rattle.std.specs.Prelude.{slice_get}
use Rattle.std.specs.List.{All, Contains}
use Rattle.std.specs.List.Sorted.{IsStrictlyIncreasing}
use Rattle.std.proofs.lemmas.List.{get_or-map, length-map}
use Rattle.std.proofs.lemmas.List.Elements.{All-append, All-contains, All-cons, All-head, All-map, All-nil, All-tail, All-weaker}
use Rattle.hp_tree.specs.declared.problem.Sort.{Sort}
use Rattle.hp_tree.specs.declared.problem.Sort.TheVariants as sort
use Rattle.hp_lit.specs.declared.literal.Name.{Name}
use Rattle.hp_lit.specs.declared.literal.IdxLit.{IdxLit}
use Rattle.hp_lit.specs.declared.literal.NumLit.{NumLit}
use Rattle.hp_lit.specs.declared.literal.Part.{Part}
use Rattle.hp_lit.specs.declared.literal.PtrLit.{PtrLit}
use Rattle.hp_lit.specs.declared.literal.Lit.{Lit}
use Rattle.hp_lit.specs.declared.literal.Lit.TheVariants.{Num, Idx, Ptr}
use Rattle.hp_lit.specs.declared.valuation.NameValue.{NameValue}
use Rattle.hp_lit.specs.Sorts.{AreOfSorts}
use Rattle.hp_lit.specs.Truth.{Values, name_value, IsTrueAt, IdxIsTrue, NumIsTrue, PtrIsTrue}
use Rattle.hp_diff.specs.Rows.{IsPoint}
use Rattle.hp_ptreq.specs.Rows.{ArePointers}
use Rattle.hp_nodes.specs.Nodes.{mentioned_by, names_of, number_of}
use Rattle.hp_lit.specs.Fit.{IsSmallBound}
use Rattle.hp_descent.specs.Columns.{AreNumFit, columns, mentioned}
use Rattle.hp_lit.specs.Fit.{IsNumFit, part_names}
use Rattle.hp_descent.specs.Answers.{IsChainSolution, IsSolution}
use Rattle.hp_descent.specs.Values.{value_in}
use Rattle.hp_descent.proofs.Rising.{columns_are_names}
use Rattle.hp_lit.specs.Fit.{IsFit, IsNumOver, IsPairOver, IsRowOver, IsSide}
use Rattle.hp_path.specs.Kinds.{idx_lits, num_lits, ptr_lits}
use Rattle.hp_path.specs.Decided.{AreOfChain, AreSmallIdx, AreValuesFor}
use Rattle.hp_path.specs.Placed.{AreApart, AreSolving, HasValue, IsValueOver}
use Rattle.hp_path.proofs.Places.{apart_append, rising_apart, value_after, values_own}

-- ---- the literals of each sort
pub fewer_nums : (lits : List Lit) → length (num_lits lits) ≤ length lits
fewer_nums [] = omega arith
fewer_nums (Num l ∷ ls) = omega (arith, fewer_nums ls)
fewer_nums (Idx l ∷ ls) = omega (arith, fewer_nums ls)
fewer_nums (Ptr l ∷ ls) = omega (arith, fewer_nums ls)

pub fewer_rows : (lits : List Lit) → length (idx_lits lits) ≤ length lits
fewer_rows [] = omega arith
fewer_rows (Num l ∷ ls) = omega (arith, fewer_rows ls)
fewer_rows (Idx l ∷ ls) = omega (arith, fewer_rows ls)
fewer_rows (Ptr l ∷ ls) = omega (arith, fewer_rows ls)

pub fewer_pairs : (lits : List Lit) → length (ptr_lits lits) ≤ length lits
fewer_pairs [] = omega arith
fewer_pairs (Num l ∷ ls) = omega (arith, fewer_pairs ls)
fewer_pairs (Idx l ∷ ls) = omega (arith, fewer_pairs ls)
fewer_pairs (Ptr l ∷ ls) = omega (arith, fewer_pairs ls)

pub nums_fit : (ss : List Sort) (lits : List Lit) → All (IsFit ss) lits → All (IsNumOver ss) (num_lits lits)
nums_fit ss [] h = All-nil (IsNumOver ss)
nums_fit ss (Num l ∷ ls) h = All-cons (IsNumOver ss) l (num_lits ls) (All-head (IsFit ss) (Num l) ls h) (nums_fit ss ls (All-tail (IsFit ss) (Num l) ls h))
nums_fit ss (Idx r ∷ ls) h = nums_fit ss ls (All-tail (IsFit ss) (Idx r) ls h)
nums_fit ss (Ptr l ∷ ls) h = nums_fit ss ls (All-tail (IsFit ss) (Ptr l) ls h)

pub rows_fit : (ss : List Sort) (lits : List Lit) → All (IsFit ss) lits → All (IsRowOver ss) (idx_lits lits)
rows_fit ss [] h = All-nil (IsRowOver ss)
rows_fit ss (Num l ∷ ls) h = rows_fit ss ls (All-tail (IsFit ss) (Num l) ls h)
rows_fit ss (Idx r ∷ ls) h = All-cons (IsRowOver ss) r (idx_lits ls) (All-head (IsFit ss) (Idx r) ls h) (rows_fit ss ls (All-tail (IsFit ss) (Idx r) ls h))
rows_fit ss (Ptr l ∷ ls) h = rows_fit ss ls (All-tail (IsFit ss) (Ptr l) ls h)

pub pairs_fit : (ss : List Sort) (lits : List Lit) → All (IsFit ss) lits → All (IsPairOver ss) (ptr_lits lits)
pairs_fit ss [] h = All-nil (IsPairOver ss)
pairs_fit ss (Num l ∷ ls) h = pairs_fit ss ls (All-tail (IsFit ss) (Num l) ls h)
pairs_fit ss (Idx r ∷ ls) h = pairs_fit ss ls (All-tail (IsFit ss) (Idx r) ls h)
pairs_fit ss (Ptr l ∷ ls) h = All-cons (IsPairOver ss) l (ptr_lits ls) (All-head (IsFit ss) (Ptr l) ls h) (pairs_fit ss ls (All-tail (IsFit ss) (Ptr l) ls h))

pub small_bounds : (ss : List Sort) (lits : List Lit) → All (IsFit ss) lits → All (λ row. IsSmallBound row.bound) (idx_lits lits)
small_bounds ss lits h = All-weaker (IsRowOver ss) (λ row. IsSmallBound row.bound) (λ row r. r.bound) (idx_lits lits) (rows_fit ss lits h)

pub fit_over : (ss : List Sort) (nums : List NumLit) → All (IsNumOver ss) nums → length nums ≤ 100000 → AreNumFit nums
fit_over ss nums h few = record { each = All-weaker (IsNumOver ss) IsNumFit (λ l r. r.fit) nums h; few = omega (arith, few) }

pub fit_nums : (ss : List Sort) (lits : List Lit) → All (IsFit ss) lits → length lits ≤ 100000 → AreNumFit (num_lits lits)
fit_nums ss lits h few = fit_over ss (num_lits lits) (nums_fit ss lits h) (let e = fewer_nums lits in omega arith)

all_true : (lits : List Lit) (v : Values) → All (PtrIsTrue v) (ptr_lits lits) → All (IdxIsTrue v) (idx_lits lits) → All (NumIsTrue v) (num_lits lits) → All (IsTrueAt v) lits
all_true [] v p r n = All-nil (IsTrueAt v)
all_true (Num l ∷ ls) v p r n = All-cons (IsTrueAt v) (Num l) ls (All-head (NumIsTrue v) l (num_lits ls) n) (all_true ls v p r (All-tail (NumIsTrue v) l (num_lits ls) n))
all_true (Idx l ∷ ls) v p r n = All-cons (IsTrueAt v) (Idx l) ls (All-head (IdxIsTrue v) l (idx_lits ls) r) (all_true ls v p (All-tail (IdxIsTrue v) l (idx_lits ls) r) n)
all_true (Ptr l ∷ ls) v p r n = All-cons (IsTrueAt v) (Ptr l) ls (All-head (PtrIsTrue v) l (ptr_lits ls) p) (all_true ls v (All-tail (PtrIsTrue v) l (ptr_lits ls) p) r n)

-- ---- the names of a list of values
pub All-left : (P : NameValue → Type 0) (xs ys : List NameValue) → All P (xs ++ ys) → All P xs
All-left P [] ys h = All-nil P
All-left P (x ∷ xs) ys h = All-cons P x xs (All-head P x (xs ++ ys) h) (All-left P xs ys (All-tail P x (xs ++ ys) h))

pub All-right : (P : NameValue → Type 0) (xs ys : List NameValue) → All P (xs ++ ys) → All P ys
All-right P [] ys h = h
All-right P (x ∷ xs) ys h = All-right P xs ys (All-tail P x (xs ++ ys) h)

pub names_all : (P : ℕ → Type 0) (nvs : List NameValue) → All P (map (λ nv. nv.name.0) nvs) → All (λ nv. P nv.name.0) nvs
names_all P nvs h k d l =
    subst P (get_or-map (λ (m : NameValue). m.name.0) nvs k d 0 l) (h k 0 (subst (λ n. k < n) (sym (length-map nvs (λ (m : NameValue). m.name.0))) l))

-- ---- names of one sort
abbrev IsNameOf : List Sort → Sort → ℕ → Type 0
IsNameOf ss t n = slice_get ss n ≡ Some t

sorts_apart : (ss : List Sort) (s t : Sort) (m n : ℕ) → s ≢ t → IsNameOf ss s m → IsNameOf ss t n → m ≢ n
sorts_apart ss s t m n apart a b e =
    let z : slice_get ss n ≡ Some s = subst (λ k. slice_get ss k ≡ Some s) e a in
    let same : s ≡ t = cc in
    apart same

-- rows of two sides of this sort, and values of their names
module _ (A : Type 0) (left right : A → Option Name) (ss : List Sort) (t : Sort) where
  side_sorted : (o : Option Name) → IsSide t ss o → All (IsNameOf ss t) (number_of o)
  side_sorted None h = All-nil (IsNameOf ss t)
  side_sorted (Some n) h = All-cons (IsNameOf ss t) n.0 [] h (All-nil (IsNameOf ss t))

  sides_sorted : (rs : List A) → All (λ r. IsSide t ss (left r)) rs → All (λ r. IsSide t ss (right r)) rs → All (IsNameOf ss t) (mentioned_by left right rs)
  sides_sorted [] g h = All-nil (IsNameOf ss t)
  sides_sorted (r ∷ rs) g h =
      let L = λ (r : A). IsSide t ss (left r) in
      let R = λ (r : A). IsSide t ss (right r) in
      All-append (IsNameOf ss t) (number_of (left r) ++ number_of (right r)) (mentioned_by left right rs)
      (All-append (IsNameOf ss t) (number_of (left r)) (number_of (right r)) (side_sorted (left r) (All-head L r rs g)) (side_sorted (right r) (All-head R r rs h)))
      (sides_sorted rs (All-tail L r rs g) (All-tail R r rs h))

  names_sorted : (rs : List A) (nvs : List NameValue) → All (λ r. IsSide t ss (left r)) rs → All (λ r. IsSide t ss (right r)) rs → All (Contains (mentioned_by left right rs)) (names_of nvs)
      → All (λ nv. IsNameOf ss t nv.name.0) nvs
  names_sorted rs nvs g h only =
      let mentions = mentioned_by left right rs in
      names_all (IsNameOf ss t) nvs (All-weaker (Contains mentions) (IsNameOf ss t) (λ n c. All-contains (IsNameOf ss t) mentions n (sides_sorted rs g h) c) (names_of nvs) only)

point_names : (ss : List Sort) (rs : List IdxLit) (point : List NameValue) → All (IsRowOver ss) rs → IsPoint rs point → All (λ nv. IsNameOf ss sort.Idx nv.name.0) point
point_names ss rs point h p =
    names_sorted IdxLit (λ r. r.left) (λ r. r.right) ss sort.Idx rs point
    (All-weaker (IsRowOver ss) (λ r. IsSide sort.Idx ss r.left) (λ r o. o.left) rs h)
    (All-weaker (IsRowOver ss) (λ r. IsSide sort.Idx ss r.right) (λ r o. o.right) rs h) p.only

pointer_names : (ss : List Sort) (ps : List PtrLit) (pointers : List NameValue) → All (IsPairOver ss) ps → ArePointers ps pointers → All (λ nv. IsNameOf ss sort.Ptr nv.name.0) pointers
pointer_names ss ps pointers h q =
    names_sorted PtrLit (λ r. r.left) (λ r. r.right) ss sort.Ptr ps pointers
    (All-weaker (IsPairOver ss) (λ r. IsSide sort.Ptr ss r.left) (λ r o. o.left) ps h)
    (All-weaker (IsPairOver ss) (λ r. IsSide sort.Ptr ss r.right) (λ r o. o.right) ps h) q.only

-- ---- values for the literals over fractions
pub mentioned_nums : (ss : List Sort) (nums : List NumLit) → All (IsNumOver ss) nums → All (λ n. slice_get ss n ≡ Some sort.Num) (mentioned nums)
mentioned_nums ss [] h = All-nil (λ n. slice_get ss n ≡ Some sort.Num)
mentioned_nums ss (l ∷ ls) h =
    let P = λ (n : ℕ). slice_get ss n ≡ Some sort.Num in
    All-append P (part_names l.parts) (mentioned ls) (All-map P (λ (p : Part). p.name.0) l.parts (All-head (IsNumOver ss) l ls h).names) (mentioned_nums ss ls (All-tail (IsNumOver ss) l ls h))

pub solving : (ss : List Sort) (nums : List NumLit) (values : List NameValue) → All (IsNumOver ss) nums → IsSolution nums values → AreSolving ss nums values
solving ss nums values h s =
    let P = λ (n : ℕ). slice_get ss n ≡ Some sort.Num in
    let names = columns_are_names nums in
    record {
      sorted = names_all P values (subst (All P) (sym s.named) (All-weaker (Contains (mentioned nums)) P (λ n c. All-contains P (mentioned nums) n (mentioned_nums ss nums h) c) (columns nums) names.only));
      apart = rising_apart values (subst IsStrictlyIncreasing (sym s.named) names.rising);
      keeps = s.keeps;
    }

-- ---- values for the literals of all sorts, one list behind the other
module _ (ss : List Sort) (lits : List Lit) (pointers point values : List NameValue) (b : All (IsFit ss) lits) (q : ArePointers (ptr_lits lits) pointers) (p : IsPoint (idx_lits lits) point) (s : AreSolving ss (num_lits lits) values) where
  pointers_of : All (λ nv. IsNameOf ss sort.Ptr nv.name.0) pointers
  pointers_of = pointer_names ss (ptr_lits lits) pointers (pairs_fit ss lits b) q

  point_of : All (λ nv. IsNameOf ss sort.Idx nv.name.0) point
  point_of = point_names ss (idx_lits lits) point (rows_fit ss lits b) p

  pub all_over : All (IsValueOver ss) ((pointers ++ point) ++ values)
  all_over =
      All-append (IsValueOver ss) (pointers ++ point) values
      (All-append (IsValueOver ss) pointers point
      (λ k d l. record { sort = sort.Ptr; at = pointers_of k d l; value = q.sort k d l })
      (λ k d l. record { sort = sort.Idx; at = point_of k d l; value = p.small k d l }))
      (λ k d l. record { sort = sort.Num; at = s.sorted k d l; value = tt })

  -- the names of pointers and indexes are apart from those of fractions
  before_nums : (n : ℕ) → IsNameOf ss sort.Num n → All (λ nv. nv.name.0 ≢ n) (pointers ++ point)
  before_nums n e =
      All-append (λ (nv : NameValue). nv.name.0 ≢ n) pointers point
      (λ k d l. sorts_apart ss sort.Ptr sort.Num _ n (λ z. cc) (pointers_of k d l) e)
      (λ k d l. sorts_apart ss sort.Idx sort.Num _ n (λ z. cc) (point_of k d l) e)

  pub all_apart : AreApart ((pointers ++ point) ++ values)
  all_apart =
      apart_append (pointers ++ point) values
      (apart_append pointers point (rising_apart pointers q.rising) (rising_apart point p.rising)
      (λ k d l j e m. sorts_apart ss sort.Ptr sort.Idx _ _ (λ z. cc) (pointers_of k d l) (point_of j e m)))
      s.apart
      (λ k d l j e m. before_nums _ (s.sorted j e m) k d l)

  pub agrees : (n : ℕ) → slice_get ss n ≡ Some sort.Num → value_in ((pointers ++ point) ++ values) n ≡ value_in values n
  agrees n e = value_after (pointers ++ point) values n (λ k d l z. before_nums n e k d l (sym z))

  pub are_values : (v : Values) → AreOfSorts ss v → AreSmallIdx ss v → ((n : ℕ) → name_value v n ≡ value_in ((pointers ++ point) ++ values) n) → AreValuesFor ss lits v
  are_values v sorted small given =
      let own = values_own ((pointers ++ point) ++ values) all_apart in
      let has : All (HasValue v) ((pointers ++ point) ++ values) = (λ k d l. given (get_or ((pointers ++ point) ++ values) k d).name.0 ∙ own k d l) in
      let first : All (HasValue v) (pointers ++ point) = All-left (HasValue v) (pointers ++ point) values has in
      record {
        sorted = sorted;
        small = small;
        holds = all_true lits v (q.keeps v (All-left (HasValue v) pointers point first)) (p.keeps v (All-right (HasValue v) pointers point first))
            (s.keeps v (All-right (HasValue v) (pointers ++ point) values has));
      }

-- the chain's values where the literals over fractions are true by them
pub of_chain : (ss : List Sort) (lits : List Lit) (chain : List ℕ) (values : List NameValue) (v : Values) → IsChainSolution (num_lits lits) chain values
    → ((n : ℕ) → slice_get ss n ≡ Some sort.Num → name_value v n ≡ value_in values n) → AreOfChain ss lits chain v
of_chain ss lits chain values v s agree = record { values = values; solution = s; agree = agree }
