use Rattle.std.proofs.Common.{sym, ◌∙◌, subst, map, Ok}
use Rattle.hp_lit.specs.declared.literal.Lit.TheVariants.{Num}
use Rattle.hp_lit.specs.Leaf.{IsValidNum}
use Rattle.hp_descent.specs.Answers.{DecidesChain, IsChainSolution}
use Rattle.hp_descent.specs.Columns.{AreNumFit}
use Rattle.hp_leaf.specs.Renumbered.{renumbered_shares}
use Rattle.hp_leaf.proofs.Renumbered.{num_placed}
use Rattle.hp_path.specs.Kinds.{num_lits}
use Rattle.hp_path.specs.Parted.{num_places}
use Rattle.hp_path.specs.Placed.{AreSolving}
use Rattle.hp_path.proofs.Mixed.{fit_nums, nums_fit, solving}
use Rattle.hp_path.proofs.Splitting.{nums_stand}
use Rattle.hp_path.proofs.deciding.decide_over.Goals as goal

pub decide_chain-requires : goal.decide_chain-requires
decide_chain-requires c = subst AreNumFit (sym (c.as_slice.ensures ∙ c.requires.parts.nums)) (fit_nums c.args.sorts.now c.args.lits.now c.requires.fit c.requires.few)

pub values_for-requires-clause-values : goal.values_for-requires-clause-values
values_for-requires-clause-values c =
    let ss = c.args.sorts.now in
    let lits = c.args.lits.now in
    let h : IsChainSolution c.as_slice.result.now c.in-Point.chain c.in-Point.values = subst (λ a. DecidesChain c.as_slice.result.now (Ok a)) c.in-Point.is c.in_ok-shares.ensures in
    let s : IsChainSolution (num_lits lits) c.in-Point.chain c.in-Point.values = subst (λ ls. IsChainSolution ls c.in-Point.chain c.in-Point.values) (c.as_slice.ensures ∙ c.requires.parts.nums) h in
    subst (AreSolving ss (num_lits lits)) (sym c.as_slice-in-Point.ensures) (solving ss (num_lits lits) c.in-Point.values (nums_fit ss lits c.requires.fit) s.solution)

pub returns-in_ok-shares-in-Farkas : goal.returns-in_ok-shares-in-Farkas
returns-in_ok-shares-in-Farkas c =
    let lits = c.args.lits.now in
    let h : IsValidNum (map Num c.as_slice.result.now) c.in-Farkas.shares = subst (λ a. DecidesChain c.as_slice.result.now (Ok a)) c.in-Farkas.is c.in_ok-shares.ensures in
    let v : IsValidNum (map Num (num_lits lits)) c.in-Farkas.shares = subst (λ ls. IsValidNum (map Num ls) c.in-Farkas.shares) (c.as_slice.ensures ∙ c.requires.parts.nums) h in
    subst (IsValidNum lits)
    (sym (c.in_ok-shares-in-Farkas.ensures ∙ (λ i. renumbered_shares ((c.as_slice-in-Farkas.ensures ∙ c.requires.parts.num_places) i) (c.as_slice-in-Farkas-2.ensures i))))
    (num_placed lits (map Num (num_lits lits)) (num_places 1 lits) c.in-Farkas.shares (nums_stand lits) v)
