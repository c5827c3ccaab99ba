-- The bound of a literal by which of its sides are variables.
use Rattle.std.proofs.Common.{◌≡◌, ◌∙◌, ℕ, Bool, true, false, not, ◌==◌, ℤ, neg_ℤ, ◌-ℤ◌, List, [], ◌∷◌, Option, Some, None, refl, sym, ap, true≢false}
use Rattle.std.specs.Prelude.{if◌then◌else◌, nat_lt}
use Rattle.std.proofs.lemmas.Bool.Decides.{Decides-eqb}
use Rattle.hp_lit.specs.declared.literal.IdxLit.{IdxLit}
use Rattle.hp_lit.specs.declared.literal.Lit.TheVariants as lit
use Rattle.hp_lit.specs.declared.literal.Name.{Name}
use Rattle.hp_lit.specs.declared.literal.Rel.{Rel}
use Rattle.hp_lit.specs.declared.line.Arg.{Arg}
use Rattle.hp_lit.specs.declared.line.Arg.TheVariants.{Index}
use Rattle.hp_index.specs.declared.form.IndexForm.{IndexForm}
use Rattle.hp_index.specs.Literals.{bound_of, cancel, compared, is_exact}
use Rattle.hp_index_set.specs.IndexSet.{bounds_between, is_variable, literal_bounds}

abbrev pub row_bounds : ℕ → Rel → IndexForm → IndexForm → List Arg
row_bounds names r l m = literal_bounds names (lit.Idx (compared r l m))

-- the row with sides that cancel or stay
abbrev row : Bool → Rel → Option Name → Option Name → ℤ → IdxLit
row c r a b z = record { exact = is_exact r; left = if c then None else a; right = if c then None else b; bound = z }

abbrev bounds_of : ℕ → Bool → Rel → Option Name → Option Name → ℤ → List Arg
bounds_of names c r a b z = bounds_between (is_variable names (if c then None else a)) (is_variable names (if c then None else b)) (row c r a b z)

-- a variable and a name don't cancel
apart : (names : ℕ) (a b : Option Name) → is_variable names a ≡ false → is_variable names b ≡ true → cancel a b ≡ false
apart names None b e f = refl
apart names (Some a) None e f = absurd (true≢false (sym f))
apart names (Some a) (Some b) e f = by (a.0 == b.0) refl
  where
    by : (t : Bool) → (a.0 == b.0) ≡ t → t ≡ false
    by false g = refl
    by true g = absurd (true≢false (sym f ∙ ap (λ (n : ℕ). not (nat_lt n names)) (sym ((Decides-eqb a.0 b.0).0 g)) ∙ e))

apart_turned : (names : ℕ) (a b : Option Name) → is_variable names a ≡ true → is_variable names b ≡ false → cancel a b ≡ false
apart_turned names None b e f = refl
apart_turned names (Some a) None e f = refl
apart_turned names (Some a) (Some b) e f = by (a.0 == b.0) refl
  where
    by : (t : Bool) → (a.0 == b.0) ≡ t → t ≡ false
    by false g = refl
    by true g = absurd (true≢false (sym e ∙ ap (λ (n : ℕ). not (nat_lt n names)) ((Decides-eqb a.0 b.0).0 g) ∙ f))

module _ (names : ℕ) (r : Rel) (l m : IndexForm) where
  abbrev bound : ℤ
  bound = bound_of r (m.offset -ℤ l.offset)

  pub no_variables : is_variable names l.base ≡ false → is_variable names m.base ≡ false → row_bounds names r l m ≡ []
  no_variables e f = by (cancel l.base m.base)
    where
      by : (c : Bool) → bounds_of names c r l.base m.base bound ≡ []
      by true = refl
      by false = λ i. bounds_between (e i) (f i) (row false r l.base m.base bound)

  pub two_variables : is_variable names l.base ≡ true → is_variable names m.base ≡ true → row_bounds names r l m ≡ []
  two_variables e f = by (cancel l.base m.base)
    where
      by : (c : Bool) → bounds_of names c r l.base m.base bound ≡ []
      by true = refl
      by false = λ i. bounds_between (e i) (f i) (row false r l.base m.base bound)

  pub left_variable : is_variable names l.base ≡ true → is_variable names m.base ≡ false → row_bounds names r l m ≡ Index m.base bound ∷ []
  left_variable e f =
      ap (λ (c : Bool). bounds_of names c r l.base m.base bound) (apart_turned names l.base m.base e f)
      ∙ (λ i. bounds_between (e i) (f i) (row false r l.base m.base bound))

  pub right_variable : is_variable names l.base ≡ false → is_variable names m.base ≡ true → row_bounds names r l m ≡ Index l.base (neg_ℤ bound) ∷ []
  right_variable e f =
      ap (λ (c : Bool). bounds_of names c r l.base m.base bound) (apart names l.base m.base e f)
      ∙ (λ i. bounds_between (e i) (f i) (row false r l.base m.base bound))
