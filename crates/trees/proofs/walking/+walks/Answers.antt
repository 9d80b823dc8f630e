-- The row number falls at each call (`row_falls`); the laws of `Walked` chain what the calls list. Assumes nothing.
use native.Mathlib.Omega.{arith}
use mathlib.Core.Path.{◌≡◌, refl, sym, ◌∙◌}
use Rattle.std.proofs.Common.{rules}
use Rattle.std.specs.Prelude.{Err}
use mathlib.Core.List.{[], ◌∷◌}
use Rattle.book.specs.Lists.{flat}
use Rattle.trees.proofs.Nodes.{apply_other, choose_other, column_nodes, apply_nodes_law, choose_nodes_law}
use Rattle.trees.proofs.Walked.{row_falls, listed_none, deeper, walked_all, walked_past, walked_more, over_top, over_apply, over_choose}
use Rattle.trees.proofs.walking.+walks.Goals.{list_apply-then-named-row+in_ok-list_apply+in_ok-list_choose, list_apply-else-named-row}
use Rattle.trees.proofs.walking.+walks.Goals.{list_choose-then-child-row+in_ok-list_apply+in_ok-list_choose, list_choose-else-child-row}
use Rattle.trees.proofs.walking.+walks.Goals as goal

-- The walk of an Apply

pub list_apply-returns-then-kind-eq1 : goal.list_apply-returns-then-kind-eq1
list_apply-returns-then-kind-eq1 t c deep =
    rw (column_nodes c.args.plan.now c.args.level c.args.row (sym c.kind-kind.ensures.0 ∙ c.if-kind-eq1.true)) c.list.ensures

pub list_apply-returns-then-kind-ne2 : goal.list_apply-returns-then-kind-ne2
list_apply-returns-then-kind-ne2 t c deep =
    let kinds = c.kind-kind.ensures.0 in
    listed_none _ _
    (apply_other c.args.plan.now c.args.level c.args.row (λ e. c.if-kind-eq1.false (kinds ∙ e))
    (λ e. c.if-kind-ne2.true (kinds ∙ e)))

pub list_apply-returns-in_err-list : goal.list_apply-returns-in_err-list
list_apply-returns-in_err-list t c deep =
    let a = c.args in
    let out : c.from_residual.result ≡ Err c.in_err-list.field-0.0 = search rules in
    over_top a.plan.now a.level a.row a.nodes.now.items _ _
    (apply_nodes_law a.plan.now a.level a.row _ _ (sym c.kind-kind.ensures.0 ∙ c.if-kind-ne2.false) refl refl) _ _
    _ out c.in_err-list.ensures

pub list_apply-list_apply-requires : goal.list_apply-list_apply-requires
list_apply-list_apply-requires t c = ((row_falls _ _ _).0 c.decreases (search rules), tt)

pub list_apply-list_choose-requires : goal.list_apply-list_choose-requires
list_apply-list_choose-requires t c = ((row_falls _ _ _).0 c.decreases (search rules), tt)

pub list_apply-loop-named-init : goal.list_apply-loop-named-init
unfolding flat
list_apply-loop-named-init t c deep = c.in_ok-list.ensures

pub list_apply-returns-in_err-list_apply : goal.list_apply-returns-in_err-list_apply
list_apply-returns-in_err-list_apply t c deep =
    let a = c.args in
    let out : c.from_residual-in_err-list_apply.result ≡ Err c.in_err-list_apply.field-0.0 = search rules in
    let l = c.loop-named in
    let rs = c.row_b.result ∷ c.row_c.result ∷ [] in
    let parts =
    apply_nodes_law a.plan.now a.level a.row c.row_b.result c.row_c.result (sym c.kind-kind.ensures.0 ∙ c.if-kind-ne2.false)
    c.row_b.ensures c.row_c.ensures in
    let d = deeper a.level a.row _ _ deep c.if-named-row.true c.saturating_add.ensures in
    over_apply a.plan.now a.level a.row a.nodes.now.items _ rs parts l.named-index (omega arith) l.nodes.items (l.invariant deep) _ d.0
    c.if-named-row.true _ _ _ out (c.in_err-list_apply.ensures d.1)

pub list_apply-returns-in_err-list_choose : goal.list_apply-returns-in_err-list_choose
list_apply-returns-in_err-list_choose t c deep =
    let a = c.args in
    let out : c.from_residual-in_err-list_choose.result ≡ Err c.in_err-list_choose.field-0.0 = search rules in
    let l = c.loop-named in
    let rs = c.row_b.result ∷ c.row_c.result ∷ [] in
    let parts =
    apply_nodes_law a.plan.now a.level a.row c.row_b.result c.row_c.result (sym c.kind-kind.ensures.0 ∙ c.if-kind-ne2.false)
    c.row_b.ensures c.row_c.ensures in
    let d = deeper a.level a.row _ _ deep c.if-named-row.true c.saturating_add.ensures in
    let e = deeper a.level a.row _ _ deep c.if-named-row.true c.saturating_add-then-named-row.ensures in
    over_choose a.plan.now a.level a.row a.nodes.now.items _ rs parts l.named-index (omega arith) l.nodes.items (l.invariant deep) _ d.0
    c.if-named-row.true _ _ _ out _ (c.in_ok-list_apply.ensures d.1)
    (rw (e.0 ∙ sym d.0) at (c.in_err-list_choose.ensures e.1))

pub list_apply-loop-named-preserved : goal.list_apply-loop-named-preserved
list_apply-loop-named-preserved t c deep =
    let a = c.args in
    let l = c.loop-named in
    let rs = c.row_b.result ∷ c.row_c.result ∷ [] in
    let parts =
    apply_nodes_law a.plan.now a.level a.row c.row_b.result c.row_c.result (sym c.kind-kind.ensures.0 ∙ c.if-kind-ne2.false)
    c.row_b.ensures c.row_c.ensures in
    elim c.if-named-row.branch [
      | list_apply-then-named-row+in_ok-list_apply+in_ok-list_choose w ↦
          let d = deeper a.level a.row _ _ deep w.if-named-row.true w.saturating_add.ensures in
          let e = deeper a.level a.row _ _ deep w.if-named-row.true w.saturating_add-then-named-row.ensures in
          rw w.nodes-is
          (walked_more a.plan.now a.level a.row a.nodes.now.items _ rs parts l.named-index (omega arith) l.nodes.items (l.invariant deep) _ d.0
          w.if-named-row.true _ _ (w.in_ok-list_apply.ensures d.1)
          (rw (e.0 ∙ sym d.0) at (w.in_ok-list_choose.ensures e.1)))
      | list_apply-else-named-row w ↦ rw w.nodes-is
          (walked_past a.plan.now a.level a.row a.nodes.now.items _ rs parts l.named-index (omega arith) l.nodes.items (l.invariant deep) w.if-named-row.false)
    ]

pub list_apply-returns : goal.list_apply-returns
list_apply-returns t c deep =
    let a = c.args in
    let l = c.loop-named in
    let rs = c.row_b.result ∷ c.row_c.result ∷ [] in
    let parts =
    apply_nodes_law a.plan.now a.level a.row c.row_b.result c.row_c.result (sym c.kind-kind.ensures.0 ∙ c.if-kind-ne2.false)
    c.row_b.ensures c.row_c.ensures in
    walked_all a.plan.now a.level a.row a.nodes.now.items _ rs parts l.nodes.items l.named-index (omega arith) (l.invariant deep)

-- The walk of a Choose

pub list_choose-returns-then-kind-ne3 : goal.list_choose-returns-then-kind-ne3
list_choose-returns-then-kind-ne3 t c deep =
    listed_none _ _
    (choose_other c.args.plan.now c.args.level c.args.row (λ e. c.if-kind-ne3.true (c.kind.ensures.0 ∙ e)))

pub list_choose-returns-in_err-list : goal.list_choose-returns-in_err-list
list_choose-returns-in_err-list t c deep =
    let a = c.args in
    let out : c.from_residual.result ≡ Err c.in_err-list.field-0.0 = search rules in
    over_top a.plan.now a.level a.row a.nodes.now.items _ _
    (choose_nodes_law a.plan.now a.level a.row _ _ _ (sym c.kind.ensures.0 ∙ c.if-kind-ne3.false) refl refl refl) _ _
    _ out c.in_err-list.ensures

pub list_choose-list_apply-requires : goal.list_choose-list_apply-requires
list_choose-list_apply-requires t c = ((row_falls _ _ _).0 c.decreases (search rules), tt)

pub list_choose-list_choose-requires : goal.list_choose-list_choose-requires
list_choose-list_choose-requires t c = ((row_falls _ _ _).0 c.decreases (search rules), tt)

pub list_choose-loop-child-init : goal.list_choose-loop-child-init
unfolding flat
list_choose-loop-child-init t c deep = c.in_ok-list.ensures

pub list_choose-returns-in_err-list_apply : goal.list_choose-returns-in_err-list_apply
list_choose-returns-in_err-list_apply t c deep =
    let a = c.args in
    let out : c.from_residual-in_err-list_apply.result ≡ Err c.in_err-list_apply.field-0.0 = search rules in
    let l = c.loop-child in
    let rs = c.row_a.result ∷ c.row_b.result ∷ c.row_c.result ∷ [] in
    let parts =
    choose_nodes_law a.plan.now a.level a.row c.row_a.result c.row_b.result c.row_c.result (sym c.kind.ensures.0 ∙ c.if-kind-ne3.false)
    c.row_a.ensures c.row_b.ensures c.row_c.ensures in
    let d = deeper a.level a.row _ _ deep c.if-child-row.true c.saturating_add.ensures in
    over_apply a.plan.now a.level a.row a.nodes.now.items _ rs parts l.child-index (omega arith) l.nodes.items (l.invariant deep) _ d.0
    c.if-child-row.true _ _ _ out (c.in_err-list_apply.ensures d.1)

pub list_choose-returns-in_err-list_choose : goal.list_choose-returns-in_err-list_choose
list_choose-returns-in_err-list_choose t c deep =
    let a = c.args in
    let out : c.from_residual-in_err-list_choose.result ≡ Err c.in_err-list_choose.field-0.0 = search rules in
    let l = c.loop-child in
    let rs = c.row_a.result ∷ c.row_b.result ∷ c.row_c.result ∷ [] in
    let parts =
    choose_nodes_law a.plan.now a.level a.row c.row_a.result c.row_b.result c.row_c.result (sym c.kind.ensures.0 ∙ c.if-kind-ne3.false)
    c.row_a.ensures c.row_b.ensures c.row_c.ensures in
    let d = deeper a.level a.row _ _ deep c.if-child-row.true c.saturating_add.ensures in
    let e = deeper a.level a.row _ _ deep c.if-child-row.true c.saturating_add-then-child-row.ensures in
    over_choose a.plan.now a.level a.row a.nodes.now.items _ rs parts l.child-index (omega arith) l.nodes.items (l.invariant deep) _ d.0
    c.if-child-row.true _ _ _ out _ (c.in_ok-list_apply.ensures d.1)
    (rw (e.0 ∙ sym d.0) at (c.in_err-list_choose.ensures e.1))

pub list_choose-loop-child-preserved : goal.list_choose-loop-child-preserved
list_choose-loop-child-preserved t c deep =
    let a = c.args in
    let l = c.loop-child in
    let rs = c.row_a.result ∷ c.row_b.result ∷ c.row_c.result ∷ [] in
    let parts =
    choose_nodes_law a.plan.now a.level a.row c.row_a.result c.row_b.result c.row_c.result (sym c.kind.ensures.0 ∙ c.if-kind-ne3.false)
    c.row_a.ensures c.row_b.ensures c.row_c.ensures in
    elim c.if-child-row.branch [
      | list_choose-then-child-row+in_ok-list_apply+in_ok-list_choose w ↦
          let d = deeper a.level a.row _ _ deep w.if-child-row.true w.saturating_add.ensures in
          let e = deeper a.level a.row _ _ deep w.if-child-row.true w.saturating_add-then-child-row.ensures in
          rw w.nodes-is
          (walked_more a.plan.now a.level a.row a.nodes.now.items _ rs parts l.child-index (omega arith) l.nodes.items (l.invariant deep) _ d.0
          w.if-child-row.true _ _ (w.in_ok-list_apply.ensures d.1)
          (rw (e.0 ∙ sym d.0) at (w.in_ok-list_choose.ensures e.1)))
      | list_choose-else-child-row w ↦ rw w.nodes-is
          (walked_past a.plan.now a.level a.row a.nodes.now.items _ rs parts l.child-index (omega arith) l.nodes.items (l.invariant deep) w.if-child-row.false)
    ]

pub list_choose-returns : goal.list_choose-returns
list_choose-returns t c deep =
    let a = c.args in
    let l = c.loop-child in
    let rs = c.row_a.result ∷ c.row_b.result ∷ c.row_c.result ∷ [] in
    let parts =
    choose_nodes_law a.plan.now a.level a.row c.row_a.result c.row_b.result c.row_c.result (sym c.kind.ensures.0 ∙ c.if-kind-ne3.false)
    c.row_a.ensures c.row_b.ensures c.row_c.ensures in
    walked_all a.plan.now a.level a.row a.nodes.now.items _ rs parts l.nodes.items l.child-index (omega arith) (l.invariant deep)
