-- Literals over the names of a clause and its variables while names are added between them: variables move behind.
use Rattle.std.proofs.Common.{◌≡◌, ◌∙◌, ℕ, ◌+◌, Bool, true, false, ◌&&◌, not, Option, Some, None, nat_lt, refl, ap, arith}
use Rattle.std.specs.Prelude.{◌==◌, if◌then◌else◌}
use Rattle.std.specs.List.{list_all}
use Rattle.std.specs.Option.{option_or}
use Rattle.hp_tree.specs.declared.problem.Cmp.{Cmp}
use Rattle.hp_tree.specs.declared.problem.Cmp.TheVariants.{Le, Lt, Eq, Ne, Ge, Gt}
use Rattle.hp_lit.specs.declared.literal.Name.{Name}
use Rattle.hp_lit.specs.declared.literal.Rel.{Rel}
use Rattle.hp_lit.specs.declared.literal.Rel.TheVariants as rel
use Rattle.hp_index.specs.declared.form.IndexForm.{IndexForm}
use Rattle.hp_index.specs.Forms.{above, plus_form}
use Rattle.hp_index.specs.Literals.{cancel, compared, form_literals}
use Rattle.hp_index_set.specs.IndexSet.{is_variable}
use Rattle.hp_index_set.specs.Rules.{is_bounded, is_bounded_literal}

-- so many names first, and so many more then
module _ (n d : ℕ) where
  abbrev pub moved : Bool → Name → Name
  moved true a = a
  moved false a = record { 0 = a.0 + d }

  abbrev pub shift : Option Name → Option Name
  shift None = None
  shift (Some a) = Some (moved (nat_lt a.0 n) a)

  abbrev pub shift_form : IndexForm → IndexForm
  shift_form f = above (shift f.base) f.offset

  -- ---- sides
  is_shifted : (a : Name) → not (nat_lt (moved (nat_lt a.0 n) a).0 (n + d)) ≡ not (nat_lt a.0 n)
  is_shifted a =
      (elim (nat_lt a.0 n) as (λ b. nat_lt a.0 n ≡ b → not (nat_lt (moved b a).0 (n + d)) ≡ not b) [
        | true ↦ λ e. (let f : nat_lt a.0 (n + d) ≡ true = grind (arith, e) in ap not f)
        | false ↦ λ e. (let f : nat_lt (a.0 + d) (n + d) ≡ false = grind (arith, e) in ap not f)
      ]) refl

  pub variable_shifted : (o : Option Name) → is_variable (n + d) (shift o) ≡ is_variable n o
  variable_shifted None = refl
  variable_shifted (Some a) = is_shifted a

  same_shifted : (a b : Name) → ((moved (nat_lt a.0 n) a).0 == (moved (nat_lt b.0 n) b).0) ≡ (a.0 == b.0)
  same_shifted a b =
      (elim (nat_lt a.0 n) as (λ p. nat_lt a.0 n ≡ p → ((moved p a).0 == (moved (nat_lt b.0 n) b).0) ≡ (a.0 == b.0)) [
        | true ↦ λ e. (elim (nat_lt b.0 n) as (λ q. nat_lt b.0 n ≡ q → (a.0 == (moved q b).0) ≡ (a.0 == b.0)) [
          | true ↦ λ f. refl
          | false ↦ λ f. grind (arith, e, f)
        ]) refl
        | false ↦ λ e. (elim (nat_lt b.0 n) as (λ q. nat_lt b.0 n ≡ q → ((a.0 + d) == (moved q b).0) ≡ (a.0 == b.0)) [
          | true ↦ λ f. grind (arith, e, f)
          | false ↦ λ f. grind (arith, e, f)
        ]) refl
      ]) refl

  cancel_shifted : (a b : Option Name) → cancel (shift a) (shift b) ≡ cancel a b
  cancel_shifted None b = refl
  cancel_shifted (Some a) None = refl
  cancel_shifted (Some a) (Some b) = same_shifted a b

  chosen_shifted : (c : Bool) (a : Option Name) → (if c then None else shift a) ≡ shift (if c then None else a)
  chosen_shifted true a = refl
  chosen_shifted false a = refl

  -- ---- forms
  or_shifted : (a b : Option Name) → option_or (shift a) (shift b) ≡ shift (option_or a b)
  or_shifted None b = refl
  or_shifted (Some a) b = refl

  pub plus_shifted : (f g : IndexForm) → plus_form (shift_form f) (shift_form g) ≡ shift_form (plus_form f g)
  plus_shifted f g = ap (λ o. above o (plus_form f g).offset) (or_shifted f.base g.base)

  -- ---- literals
  side_shifted : (f g : IndexForm) (o : Option Name) → is_variable (n + d) (if cancel (shift f.base) (shift g.base) then None else shift o) ≡ is_variable n (if cancel f.base g.base then None else o)
  side_shifted f g o =
      ap (λ c. is_variable (n + d) (if c then None else shift o)) (cancel_shifted f.base g.base)
      ∙ ap (is_variable (n + d)) (chosen_shifted (cancel f.base g.base) o)
      ∙ variable_shifted (if cancel f.base g.base then None else o)

  same_bound : (p q : Bool) (r : Rel) (f g : IndexForm) → is_bounded p q (compared r (shift_form f) (shift_form g)) ≡ is_bounded p q (compared r f g)
  same_bound true true r f g = refl
  same_bound true false r f g = refl
  same_bound false true r f g = refl
  same_bound false false r f g = refl

  bounded_shifted : (r : Rel) (f g : IndexForm) →
      is_bounded (is_variable (n + d) (compared r (shift_form f) (shift_form g)).left) (is_variable (n + d) (compared r (shift_form f) (shift_form g)).right) (compared r (shift_form f) (shift_form g))
      ≡ is_bounded (is_variable n (compared r f g).left) (is_variable n (compared r f g).right) (compared r f g)
  bounded_shifted r f g =
      (λ i. is_bounded (side_shifted f g f.base i) (side_shifted f g g.base i) (compared r (shift_form f) (shift_form g)))
      ∙ same_bound (is_variable n (compared r f g).left) (is_variable n (compared r f g).right) r f g

  pub literals_shifted : (cmp : Cmp) (f g : IndexForm) → list_all (is_bounded_literal (n + d)) (form_literals cmp (shift_form f) (shift_form g)) ≡ list_all (is_bounded_literal n) (form_literals cmp f g)
  literals_shifted Le f g = ap (λ b. b && true) (bounded_shifted rel.Le f g)
  literals_shifted Lt f g = ap (λ b. b && true) (bounded_shifted rel.Lt f g)
  literals_shifted Eq f g = ap (λ b. b && true) (bounded_shifted rel.Eq f g)
  literals_shifted Ne f g = (λ i. bounded_shifted rel.Lt f g i && (bounded_shifted rel.Lt g f i && true))
  literals_shifted Ge f g = ap (λ b. b && true) (bounded_shifted rel.Le g f)
  literals_shifted Gt f g = ap (λ b. b && true) (bounded_shifted rel.Lt g f)
