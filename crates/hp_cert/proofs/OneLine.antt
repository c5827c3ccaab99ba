-- The texts of lines and definitions are on one line where the names are.
use Rattle.std.proofs.Common.{◌≡◌, ℕ, zero, suc, ◌+◌, ◌-◌, ◌/◌, ◌%◌, ◌==◌, ℤ, pos, negsuc, List, [], ◌∷◌, ◌++◌, length, Bool, true, false, ◌&&◌, not, nat_eq, cond, Option, Some, None, refl, subst, arith}
use Rattle.std.specs.Prelude.{codes, slice_get, int_lt, nat_lt, unsigned_abs}
use Rattle.std.specs.List.{flat_map, join_by}
use Rattle.std.specs.Fmt.{decimal, digits, digits_onto, digit_glyph, signed_decimal}
use Rattle.std.proofs.lemmas.Bool.{and_parts, eq-eqb}
use Rattle.std.proofs.lemmas.List.Elements.{All-nil, All-cons, All-append}
use Rattle.std.proofs.lemmas.Option.{slice_get_within, get_or_from_slice_get}
use Rattle.hp_math.specs.Rational.{ℚ, is_whole}
use Rattle.hp_ast.specs.Printing.{frac_text}
use Rattle.hp_lit.specs.declared.literal.Name.{Name}
use Rattle.hp_lit.specs.declared.literal.Part.{Part}
use Rattle.hp_lit.specs.declared.literal.Rel.{Rel}
use Rattle.hp_lit.specs.declared.literal.Rel.TheVariants.{Le, Lt, Eq}
use Rattle.hp_lit.specs.declared.literal.Lit.{Lit}
use Rattle.hp_lit.specs.declared.literal.Lit.TheVariants.{Num, Idx, Ptr}
use Rattle.hp_lit.specs.declared.line.LinPart.{LinPart}
use Rattle.hp_lit.specs.declared.line.Arg.{Arg}
use Rattle.hp_lit.specs.declared.line.Arg.TheVariants.{Number, Named, Index, Null}
use Rattle.hp_lit.specs.declared.line.Body.{Body}
use Rattle.hp_lit.specs.declared.line.Body.TheVariants.{Apply, Sum}
use Rattle.hp_lit.specs.declared.line.Def.{Def}
use Rattle.hp_lit.specs.declared.line.Line.{Line}
use Rattle.hp_lit.specs.declared.line.Origin.{Origin}
use Rattle.hp_lit.specs.declared.line.Origin.TheVariants.{Ground as FromGround, At, Equal, SumOf}
use Rattle.hp_defs.specs.declared.names.Constant.{Constant}
use Rattle.hp_defs.specs.declared.names.Ground.{Ground}
use Rattle.hp_defs.specs.Names.{NameList}
use Rattle.hp_cert.specs.Forms.{constant_or_made, name_text, first_sign, further_sign, magnitude_text, multiple_text, rest_text, by_place, first_multiple, further_multiple, first_part, further_part, parts_text, first_summand, further_summand, sum_text, index_text, arg_text}
use Rattle.hp_cert.specs.Literals.{relation_text, difference_text, bound_sign, pointer_text, same_sign, lit_text}
use Rattle.hp_cert.specs.Lines.{origin_text, lits_text, full_line_text, line_text, function_name, body_text, full_def_text, def_text}
use Rattle.hp_cert.specs.Spelled.{IsOther, IsOnOneLine, FunctionIsOnOneLine, AreOnOneLine}

-- ---- literal texts
abbrev others : List ℕ → Bool
others [] = true
others (b ∷ bs) = not (nat_eq b 10) && others bs

other_of : (b : ℕ) → not (nat_eq b 10) ≡ true → IsOther b
other_of b h e = let t = eq-eqb b 10 e in cc

literal : (text : List ℕ) → others text ≡ true → IsOnOneLine text
literal [] h = All-nil IsOther
literal (b ∷ bs) h = let p = and_parts (not (nat_eq b 10)) (others bs) h in All-cons IsOther b bs (other_of b p.0) (literal bs p.1)

both : (xs ys : List ℕ) → IsOnOneLine xs → IsOnOneLine ys → IsOnOneLine (xs ++ ys)
both xs ys h k = All-append IsOther xs ys h k

three : (xs ys zs : List ℕ) → IsOnOneLine xs → IsOnOneLine ys → IsOnOneLine zs → IsOnOneLine (xs ++ ys ++ zs)
three xs ys zs h k l = both (xs ++ ys) zs (both xs ys h k) l

four : (ws xs ys zs : List ℕ) → IsOnOneLine ws → IsOnOneLine xs → IsOnOneLine ys → IsOnOneLine zs → IsOnOneLine (ws ++ xs ++ ys ++ zs)
four ws xs ys zs g h k l = both (ws ++ xs ++ ys) zs (three ws xs ys g h k) l

either : (b : Bool) (xs ys : List ℕ) → IsOnOneLine xs → IsOnOneLine ys → IsOnOneLine (cond b xs ys)
either true xs ys h k = h
either false xs ys h k = k

flat : {X : Type 0} (f : X → List ℕ) (xs : List X) → ((x : X) → IsOnOneLine (f x)) → IsOnOneLine (flat_map f xs)
flat f [] h = All-nil IsOther
flat f (x ∷ xs) h = both (f x) (flat_map f xs) (h x) (flat f xs h)

joined : {X : Type 0} (f : X → List ℕ) (sep : List ℕ) (xs : List X) → IsOnOneLine sep → ((x : X) → IsOnOneLine (f x)) → IsOnOneLine (join_by f sep xs)
joined f sep [] s h = All-nil IsOther
joined f sep (x ∷ xs) s h = both (f x) _ (h x) (flat (λ y. sep ++ f y) xs (λ y. both sep (f y) s (h y)))

placed : {X : Type 0} (f g : X → List ℕ) (xs : List X) → ((x : X) → IsOnOneLine (f x)) → ((x : X) → IsOnOneLine (g x)) → IsOnOneLine (by_place f g xs)
placed f g [] h k = All-nil IsOther
placed f g (x ∷ xs) h k = both (f x) (flat_map g xs) (h x) (flat g xs k)

-- ---- numbers
glyph : (d : ℕ) → IsOther (digit_glyph false d)
glyph d = go (nat_lt d 10)
  where
    go : (b : Bool) → IsOther (cond b (48 + d) (87 + d))
    go true e = omega (arith, e)
    go false e = omega (arith, e)

onto : (k n : ℕ) (acc : List ℕ) → IsOnOneLine acc → IsOnOneLine (digits_onto k 10 false n acc)
onto zero n acc h = h
onto (suc k) n acc h =
    let more = All-cons IsOther (digit_glyph false (n % 10)) acc (glyph (n % 10)) h in
    either (n / 10 == 0) _ _ more (onto k (n / 10) _ more)

decimal_line : (n : ℕ) → IsOnOneLine (decimal n)
unfolding digits
decimal_line n = onto 64 n [] (All-nil IsOther)

signed_line : (z : ℤ) → IsOnOneLine (signed_decimal z)
signed_line (pos n) = decimal_line n
signed_line (negsuc n) = All-cons IsOther 45 (decimal (suc n)) (λ e. omega (arith, e)) (decimal_line (suc n))

frac_line : (q : ℚ) → IsOnOneLine (frac_text q)
frac_line q = either (is_whole q) _ _ (signed_line q.num) (three (signed_decimal q.num) (codes "/") (decimal q.den) (signed_line q.num) (literal (codes "/") refl) (decimal_line q.den))

first_sign_line : (z : ℤ) → IsOnOneLine (first_sign z)
first_sign_line z = either (int_lt z (pos 0)) _ _ (literal (codes "-") refl) (All-nil IsOther)

further_sign_line : (z : ℤ) → IsOnOneLine (further_sign z)
further_sign_line z = either (int_lt z (pos 0)) _ _ (literal (codes " - ") refl) (literal (codes " + ") refl)

magnitude_line : (num : ℤ) (den : ℕ) → IsOnOneLine (magnitude_text num den)
magnitude_line num den =
    both (decimal (unsigned_abs num)) _ (decimal_line (unsigned_abs num))
    (either (nat_eq den 1) _ _ (All-nil IsOther) (both (codes "/") (decimal den) (literal (codes "/") refl) (decimal_line den)))

multiple_line : (num : ℤ) (den : ℕ) (name : List ℕ) → IsOnOneLine name → IsOnOneLine (multiple_text num den name)
multiple_line num den name h =
    either (nat_eq (unsigned_abs num) 1 && nat_eq den 1) _ _ h (three (magnitude_text num den) (codes "*") name (magnitude_line num den) (literal (codes "*") refl) h)

rest_line : (num : ℤ) (den : ℕ) → IsOnOneLine (rest_text num den)
rest_line num den = either (nat_eq (unsigned_abs num) 0) _ _ (All-nil IsOther) (both (further_sign num) (magnitude_text num den) (further_sign_line num) (magnitude_line num den))

relation_line : (rel : Rel) → IsOnOneLine (relation_text rel)
relation_line Le = literal (codes " <= ") refl
relation_line Lt = literal (codes " < ") refl
relation_line Eq = literal (codes " = ") refl

bound_line : (exact : Bool) → IsOnOneLine (bound_sign exact)
bound_line true = literal (codes " = ") refl
bound_line false = literal (codes " <= ") refl

same_line : (same : Bool) → IsOnOneLine (same_sign same)
same_line true = literal (codes " = ") refl
same_line false = literal (codes " != ") refl

-- ---- what has names
module _ (names : NameList) (named : AreOnOneLine names) where
  name_line : (n : Name) → IsOnOneLine (name_text names n)
  name_line n = by (slice_get names.constants n.0) refl
    where
      by : (o : Option Constant) → slice_get names.constants n.0 ≡ o → IsOnOneLine (constant_or_made o (n.0 - length names.constants + 1))
      by (Some c) e = subst (λ (d : Constant). IsOnOneLine d.name) (get_or_from_slice_get names.constants n.0 c c e) (named.constants n.0 c (slice_get_within names.constants n.0 c e))
      by None e = both (codes "_") _ (literal (codes "_") refl) (decimal_line (n.0 - length names.constants + 1))

  first_line : (num : ℤ) (den : ℕ) (n : Name) → IsOnOneLine (first_multiple names num den n)
  unfolding first_multiple
  first_line num den n = both (first_sign num) _ (first_sign_line num) (multiple_line num den (name_text names n) (name_line n))

  further_line : (num : ℤ) (den : ℕ) (n : Name) → IsOnOneLine (further_multiple names num den n)
  unfolding further_multiple
  further_line num den n = both (further_sign num) _ (further_sign_line num) (multiple_line num den (name_text names n) (name_line n))

  parts_line : (ps : List Part) → IsOnOneLine (parts_text names ps)
  parts_line [] = literal (codes "0") refl
  parts_line (p ∷ ps) = placed (first_part names) (further_part names) (p ∷ ps) (λ p. first_line p.coef 1 p.name) (λ p. further_line p.coef 1 p.name)

  sum_line : (ps : List LinPart) (rest : ℚ) → IsOnOneLine (sum_text names ps rest)
  sum_line [] rest = frac_line rest
  sum_line (p ∷ ps) rest =
      both (by_place (first_summand names) (further_summand names) (p ∷ ps)) (rest_text rest.num rest.den)
      (placed (first_summand names) (further_summand names) (p ∷ ps) (λ p. first_line p.coef.num p.coef.den p.name) (λ p. further_line p.coef.num p.coef.den p.name))
      (rest_line rest.num rest.den)

  index_line : (base : Option Name) (offset : ℤ) → IsOnOneLine (index_text names base offset)
  index_line None offset = signed_line offset
  index_line (Some n) offset = both (name_text names n) (rest_text offset 1) (name_line n) (rest_line offset 1)

  arg_line : (arg : Arg) → IsOnOneLine (arg_text names arg)
  arg_line (Number value) = frac_line value
  arg_line (Named n) = name_line n
  arg_line (Index base offset) = index_line base offset
  arg_line Null = literal (codes "null") refl

  args_line : (args : List Arg) → IsOnOneLine (join_by (arg_text names) (codes ", ") args)
  args_line args = joined (arg_text names) (codes ", ") args (literal (codes ", ") refl) arg_line

  difference_line : (left right : Option Name) → IsOnOneLine (difference_text names left right)
  difference_line (Some l) (Some r) = three (name_text names l) (codes " - ") (name_text names r) (name_line l) (literal (codes " - ") refl) (name_line r)
  difference_line (Some l) None = name_line l
  difference_line None (Some r) = both (codes "-") (name_text names r) (literal (codes "-") refl) (name_line r)
  difference_line None None = literal (codes "0") refl

  pointer_line : (side : Option Name) → IsOnOneLine (pointer_text names side)
  pointer_line (Some n) = name_line n
  pointer_line None = literal (codes "null") refl

  lit_line : (lit : Lit) → IsOnOneLine (lit_text names lit)
  lit_line (Num l) = three (parts_text names l.parts) (relation_text l.rel) (signed_decimal l.bound) (parts_line l.parts) (relation_line l.rel) (signed_line l.bound)
  lit_line (Idx l) = three (difference_text names l.left l.right) (bound_sign l.exact) (signed_decimal l.bound) (difference_line l.left l.right) (bound_line l.exact) (signed_line l.bound)
  lit_line (Ptr l) = three (pointer_text names l.left) (same_sign l.same) (pointer_text names l.right) (pointer_line l.left) (same_line l.same) (pointer_line l.right)

  lits_line : (lits : List Lit) → IsOnOneLine (lits_text names lits)
  lits_line [] = literal (codes "false") refl
  lits_line (l ∷ ls) = joined (lit_text names) (codes " | ") (l ∷ ls) (literal (codes " | ") refl) lit_line

  origin_line : (origin : Origin) → IsOnOneLine (origin_text names origin)
  origin_line (FromGround clause) = both (codes "clause ") (decimal clause) (literal (codes "clause ") refl) (decimal_line clause)
  origin_line (At clause tuple) =
      four (codes "clause ") (decimal clause) (codes " at ") (join_by (arg_text names) (codes ", ") tuple) (literal (codes "clause ") refl) (decimal_line clause) (literal (codes " at ") refl) (args_line tuple)
  origin_line (Equal left right) =
      four (codes "equal ") (name_text names left) (codes ", ") (name_text names right) (literal (codes "equal ") refl) (name_line left) (literal (codes ", ") refl) (name_line right)
  origin_line (SumOf n) = both (codes "sum ") (name_text names n) (literal (codes "sum ") refl) (name_line n)

  full_line : (line : Option Line) → IsOnOneLine (full_line_text names line)
  full_line None = All-nil IsOther
  full_line (Some line) = three (origin_text names line.origin) (codes ": ") (lits_text names line.lits) (origin_line line.origin) (literal (codes ": ") refl) (lits_line line.lits)

  body_line : (body : Body) → FunctionIsOnOneLine names body → IsOnOneLine (body_text names body)
  body_line (Apply func args) h =
      four (function_name (slice_get names.signatures func)) (codes "(") (join_by (arg_text names) (codes ", ") args) (codes ")") h (literal (codes "(") refl) (args_line args) (literal (codes ")") refl)
  body_line (Sum lin) h = sum_line lin.parts lin.rest

  pub def_on_one_line : (n : ℕ) → IsOnOneLine (def_text names n)
  def_on_one_line n = by (slice_get names.definitions (n - 1)) refl
    where
      by : (o : Option Def) → slice_get names.definitions (n - 1) ≡ o → IsOnOneLine (full_def_text names o)
      by (Some def) e =
          body_line def.body (subst (λ (d : Def). FunctionIsOnOneLine names d.body) (get_or_from_slice_get names.definitions (n - 1) def def e) (named.functions (n - 1) def (slice_get_within names.definitions (n - 1) def e)))
      by None e = All-nil IsOther

pub line_on_one_line : (g : Ground) → AreOnOneLine g.names → (n : ℕ) → IsOnOneLine (line_text g n)
line_on_one_line g named n = full_line g.names named (slice_get g.lines (n - 1))
