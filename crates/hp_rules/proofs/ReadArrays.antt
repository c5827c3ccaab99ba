-- A clause over arrays is read as one.
use Rattle.std.proofs.Common.{◌≡◌, ◌∙◌, ℕ, List, [], ◌∷◌, true, false, length, get_or, if◌then◌else◌, Result, Err, refl, sym, ap, subst}
use Rattle.std.specs.List.{list_all}
use Rattle.hp_defs.specs.Names.{NameList}
use Rattle.hp_norm.specs.declared.flat.FlatClause.{FlatClause}
use Rattle.hp_flatten.specs.declared.application.Application.{Application}
use Rattle.hp_rules.specs.declared.ruled.Ruled.{Ruled}
use Rattle.hp_rules.specs.declared.ruled.RuleErr.{RuleErr}
use Rattle.hp_rules.specs.Answers.{RuledTo}
use Rattle.hp_rules.specs.Rules.{application_place, broken, is_array_application, is_num_function, read_applications, read_level, read_nums, signature_of}

pub as_arrays : (names : NameList) (monotone : List ℕ) (ruled new : Ruled) (c : FlatClause) (apps : List Application) (first : Application) (r : Result (Unit {0}) RuleErr)
    → (length apps ≡ 0 → ⊥) → first ≡ get_or apps 0 first → list_all (λ a. is_num_function names (application_place names a)) apps ≡ false → list_all (is_array_application names) apps ≡ true
    → RuledTo (read_level names ruled c apps (signature_of names first)) new r → RuledTo (read_applications names monotone ruled c apps) new r
as_arrays names monotone ruled new c [] first r some is nums arrays h = absurd (some refl)
as_arrays names monotone ruled new c (a ∷ more) first r some is nums arrays h =
    let read = λ (x : Application). read_level names ruled c (a ∷ more) (signature_of names x) in
    subst (λ (wanted : Result Ruled RuleErr). RuledTo wanted new r)
    (sym (ap (λ b. if b then read_nums names monotone ruled c (a ∷ more) else (if list_all (is_array_application names) (a ∷ more) then read a else Err (broken c.clause 3))) nums
    ∙ ap (λ b. if b then read a else Err (broken c.clause 3)) arrays
    ∙ ap read (sym is))) h
