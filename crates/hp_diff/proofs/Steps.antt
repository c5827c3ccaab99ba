-- A cycle of edges as steps over the rows that they stand for.
use Rattle.std.proofs.Common.{◌≡◌, ℕ, ◌-◌, ◌<◌, List, [], ◌∷◌, length, map, refl, sym, ap, subst, ◌∙◌, pos, ◌+ℤ◌, ◌<ℤ◌}
use Rattle.std.proofs.lemmas.Option.{slice_get-map}
use Rattle.std.specs.Option.{option_map}
use Rattle.std.specs.List.{All}
use Rattle.std.proofs.lemmas.List.Elements.{All-nil, All-cons}
use Rattle.hp_lit.specs.declared.literal.IdxLit.{IdxLit}
use Rattle.hp_lit.specs.declared.literal.Lit.TheVariants.{Idx}
use Rattle.hp_lit.specs.Cycle.{turned, AreRowsOf, Leads, bound_sum, IsValidIdx}
use Rattle.hp_diff.specs.declared.edges.Edge.{Edge}
use Rattle.hp_diff.specs.inner.Labels.{edge_at}
use Rattle.hp_diff.specs.inner.Cycles.{Walk, weight, IsNegativeCycle}
use Rattle.hp_nodes.specs.Nodes.{name_at}
use Rattle.hp_diff.specs.inner.Edges.{IsEdgeOf, step_at}

pub walk_within : (edges : List Edge) (ks : List ℕ) (a b : ℕ) → Walk edges a ks b → All (λ k. k < length edges) ks
walk_within edges [] a b w = All-nil (λ k. k < length edges)
walk_within edges (k ∷ ks) a b w = All-cons (λ k. k < length edges) k ks w.0 (walk_within edges ks (edge_at edges k).from b w.2)

module _ (names : List ℕ) (rows : List IdxLit) (edges : List Edge) (each : All (IsEdgeOf names rows) edges) where
  -- the rows of a walk, one after the other
  pub record AreWalked (a b : ℕ) (ks : List ℕ) : Type 0 where
    pub rows_of : List IdxLit
    pub are : AreRowsOf (map Idx rows) (map (step_at edges) ks) rows_of
    pub leads : Leads (name_at names a) rows_of (name_at names b)
    pub sum : bound_sum rows_of ≡ weight edges ks

  pub walked : (ks : List ℕ) (a b : ℕ) → Walk edges a ks b → AreWalked a b ks
  walked [] a b w = record { rows_of = []; are = tt; leads = ap (name_at names) w; sum = refl }
  walked (k ∷ ks) a b w =
      let e = edge_at edges k in
      let p : IsEdgeOf names rows e = each k _ w.0 in
      let rest = walked ks e.from b w.2 in
      record {
        rows_of = turned p.row e.forward ∷ rest.rows_of;
        are = (
          record { lit = p.row; at = (p.lit, slice_get-map Idx rows (e.lit - 1) ∙ ap (option_map Idx) p.at); may = p.may; same = refl },
          rest.are,
        );
        leads = (ap (name_at names) w.1 ∙ p.over.left, subst (λ n. Leads n rest.rows_of (name_at names b)) p.over.right rest.leads);
        sum = λ i. sym p.over.bound i +ℤ rest.sum i;
      }

  pub valid_steps : (cycle : List ℕ) → IsNegativeCycle edges cycle → IsValidIdx (map Idx rows) (map (step_at edges) cycle)
  valid_steps cycle c =
      let w = walked cycle c.start c.start c.walk in
      record {
        rows = w.rows_of;
        are_rows = w.are;
        start = name_at names c.start;
        cycle = w.leads;
        below = subst (λ s. s <ℤ pos 0) (sym w.sum) c.negative;
      }
