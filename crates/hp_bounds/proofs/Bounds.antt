-- What the length of a text bounds.
use Rattle.std.proofs.Common.{ℕ, ◌*◌, ◌^◌, ◌<◌, ◌≤◌, length, arith, lit<}
use Rattle.std.proofs.Math.Nat.{mul-le-mul_right}
use Rattle.std.proofs.lemmas.List.{length-map}
use Rattle.hp_grammar.specs.Symbols.{symbol_of, symbols}
use Rattle.hp_terms.specs.Weight.{largest_offset}
use Rattle.hp_bounds.specs.Laws.{FewItems, LightNumbers}
use Rattle.hp_bounds.proofs.Loads.{load}
use Rattle.hp_bounds.proofs.Tokens.{tokens_fit, tokens_carry}
use Rattle.hp_bounds.proofs.Items.{few_in_problem}
use Rattle.hp_bounds.proofs.Atoms.{light_problem}

pub few_items : FewItems
few_items bytes p s =
    omega (arith, few_in_problem (symbols bytes s.tokens) p s.spelled, length-map s.tokens (symbol_of bytes), tokens_fit bytes 0 s.lexes.place s.tokens (omega arith) s.lexes.passes)

below : (n m : ℕ) → m ≤ n * 10 ^ 18 → n ≤ 1048576 → m < largest_offset
below n m h l =
    let most : n * 10 ^ 18 ≤ 1048576 * 10 ^ 18 = mul-le-mul_right (10 ^ 18) l in
    let less : 1048576 * 10 ^ 18 < 2 * 10 ^ 24 = lit< tt in
    omega arith

pub light_numbers : LightNumbers
light_numbers bytes p s l =
    let fit = tokens_fit bytes 0 s.lexes.place s.tokens (omega arith) s.lexes.passes in
    let few : length s.tokens ≤ 1048576 = omega (arith, fit) in
    light_problem (symbols bytes s.tokens) p s.spelled (below (length s.tokens) (load (symbols bytes s.tokens)) (tokens_carry bytes 0 s.lexes.place s.tokens (omega arith) s.lexes.passes) few)
