use Rattle.std.proofs.Common.{All, ◌≡◌, ◌<◌, ◌+◌, ◌∷◌, ◌++◌, ◌∙◌, ℕ, List, suc, [], get_or, length, ap, sym, subst, arith}
use Rattle.std.proofs.lemmas.List.{get_or_default}
use Rattle.hp_complex.specs.Complexes.{map_at}
use Rattle.hp_resolution.specs.Resolutions.{row_degrees}
use Rattle.hp_minres.specs.Reductions.{AreSorted, degrees_in, in_orders, map_size}
use Rattle.hp_minres.proofs.DegreeOrders.{order_inside}
use Rattle.hp_minres.proofs.StartedComplexes.{first_rows, frame_columns, have_orders, sorted-more, sorted_graded_exact}
use Rattle.hp_minres.proofs.start.started.Goals as goal

pub rows_in_order-requires-clause-rows : goal.rows_in_order-requires-clause-rows
rows_in_order-requires-clause-rows g c =
    let f = c.args.frame.now in
    let frame = c.complex-complex.ensures.of in
    let k = c.loop-k.k in
    let os = c.in_ok-orders.orders.items in
    let h = c.in_ok-orders.ensures.orders in
    let all = ap length c.degrees-all.ensures.value in
    let l : k < length f.maps = omega (arith, c.loop-k-test.true, all, frame.resolution.one_each) in
    let next : k + 1 ≡ suc k = omega arith in
    let order : c.as_slice-order.result.now ≡ get_or os (suc k) [] =
    c.as_slice-order.ensures ∙ c.index.ensures ∙ get_or_default os (k + 1) c.index.result.now [] (omega (arith, h.count, l)) ∙ ap (λ t. get_or os t []) next in
    let rows : length c.map-map.result.now.rows ≡ length (row_degrees f k) =
    ap (λ m. length m.rows) (c.map-map.ensures.value ∙ ap (λ ms. map_at ms k) c.complex-complex.ensures.value) ∙ sym (frame.resolution.homogeneous k l).one_each in
    subst (λ (t : List ℕ × ℕ). All (λ i. i < t.1) t.0) {x = (get_or os (suc k) [], length (row_degrees f k))}
    {y = (c.as_slice-order.result.now, length c.map-map.result.now.rows)} (λ t. (sym order t, sym rows t))
    (order_inside (length (row_degrees f k)) (get_or os (suc k) []) (h.each k l).permutes)

pub rows_in_order-requires-clause-columns : goal.rows_in_order-requires-clause-columns
rows_in_order-requires-clause-columns g c =
    let field = g.met.F.Field.field_laws in
    let f = c.args.frame.now in
    let frame = c.complex-complex.ensures.of in
    let k = c.loop-k.k in
    let os = c.in_ok-orders.orders.items in
    let h = c.in_ok-orders.ensures.orders in
    let all = ap length c.degrees-all.ensures.value in
    let l : k < length f.maps = omega (arith, c.loop-k-test.true, all, frame.resolution.one_each) in
    let columns : c.as_slice-columns.result.now ≡ get_or os k [] =
    c.as_slice-columns.ensures ∙ c.index-in-loop-k.ensures ∙ get_or_default os k c.index-in-loop-k.result.now [] (omega (arith, h.count, l)) in
    let wide : c.map-map.result.now.cols ≡ map_size f.maps k =
    ap (λ m. m.cols) (c.map-map.ensures.value ∙ ap (λ ms. map_at ms k) c.complex-complex.ensures.value) ∙ frame_columns field f frame k l in
    subst (λ (t : List ℕ × ℕ). All (λ i. i < t.1) t.0) {x = (get_or os k [], map_size f.maps k)}
    {y = (c.as_slice-columns.result.now, c.map-map.result.now.cols)} (λ t. (sym columns t, sym wide t))
    (order_inside (map_size f.maps k) (get_or os k []) ((have_orders field f frame os h).each k))

pub degrees_in_order-requires : goal.degrees_in_order-requires
degrees_in_order-requires g c =
    let f = c.args.frame.now in
    let frame = c.complex-complex.ensures.of in
    let k = c.loop-k.k in
    let os = c.in_ok-orders.orders.items in
    let h = c.in_ok-orders.ensures.orders in
    let all = ap length c.degrees-all.ensures.value in
    let l : k < length f.maps = omega (arith, c.loop-k-test.true, all, frame.resolution.one_each) in
    let next : k + 1 ≡ suc k = omega arith in
    let order : c.as_slice-order.result.now ≡ get_or os (suc k) [] =
    c.as_slice-order.ensures ∙ c.index.ensures ∙ get_or_default os (k + 1) c.index.result.now [] (omega (arith, h.count, l)) ∙ ap (λ t. get_or os t []) next in
    let row : c.as_slice-row.result.now ≡ row_degrees f k =
    c.as_slice-row.ensures ∙ c.index-all-k.is ∙ get_or_default c.degrees-all.result.now k c.index-all-k.result [] c.loop-k-test.true
    ∙ ap (λ ds. get_or ds k []) c.degrees-all.ensures.value in
    subst (λ (t : List ℕ × List ℕ). All (λ i. i < length t.1) t.0) {x = (get_or os (suc k) [], row_degrees f k)}
    {y = (c.as_slice-order.result.now, c.as_slice-row.result.now)} (λ t. (sym order t, sym row t))
    (order_inside (length (row_degrees f k)) (get_or os (suc k) []) (h.each k l).permutes)

pub loop-k-preserved : goal.loop-k-preserved
loop-k-preserved g c =
    let field = g.met.F.Field.field_laws in
    let f = c.args.frame.now in
    let frame = c.complex-complex.ensures.of in
    let k = c.loop-k.k in
    let os = c.in_ok-orders.orders.items in
    let o : ℕ → List ℕ = λ k. get_or os k [] in
    let h = c.in_ok-orders.ensures.orders in
    let all = ap length c.degrees-all.ensures.value in
    let l : k < length f.maps = omega (arith, c.loop-k-test.true, all, frame.resolution.one_each) in
    let next : k + 1 ≡ suc k = omega arith in
    let order : c.as_slice-order.result.now ≡ get_or os (suc k) [] =
    c.as_slice-order.ensures ∙ c.index.ensures ∙ get_or_default os (k + 1) c.index.result.now [] (omega (arith, h.count, l)) ∙ ap (λ t. get_or os t []) next in
    let columns : c.as_slice-columns.result.now ≡ get_or os k [] =
    c.as_slice-columns.ensures ∙ c.index-in-loop-k.ensures ∙ get_or_default os k c.index-in-loop-k.result.now [] (omega (arith, h.count, l)) in
    let row : c.as_slice-row.result.now ≡ row_degrees f k =
    c.as_slice-row.ensures ∙ c.index-all-k.is ∙ get_or_default c.degrees-all.result.now k c.index-all-k.result [] c.loop-k-test.true
    ∙ ap (λ ds. get_or ds k []) c.degrees-all.ensures.value in
    let map = c.map-map.ensures.value ∙ ap (λ ms. map_at ms k) c.complex-complex.ensures.value in
    let rows = c.in_ok-rows.ensures ∙ (λ t. in_orders (map t).rows (order t) (columns t)) in
    let ds = c.in_ok-degrees.ensures ∙ (λ t. degrees_in (row t) (order t)) in
    let more = sorted-more field f o k c.loop-k.maps.items c.loop-k.sorted.items c.in_ok-rows.rows c.in_ok-degrees.degrees c.loop-k.invariant rows ds in
    subst (λ t. AreSorted f o (k + 1) c.push.new.self.items t) (sym c.in_ok-push-2.ensures.items)
    (subst (λ t. AreSorted f o (k + 1) t (c.loop-k.sorted.items ++ c.in_ok-degrees.degrees ∷ [])) (sym c.in_ok-push.ensures.items) more)

pub returns-clause-complex : goal.returns-clause-complex
returns-clause-complex g c =
    let field = g.met.F.Field.field_laws in
    let f = c.args.frame.now in
    let frame = c.complex-complex.ensures.of in
    let os = c.in_ok-orders.orders.items in
    let o : ℕ → List ℕ = λ k. get_or os k [] in
    let all = ap length c.degrees-all.ensures.value in
    let e : c.loop-k.k ≡ length f.maps = omega (arith, c.loop-k-test.false, c.loop-k.auto.k-end, all, frame.resolution.one_each) in
    sorted_graded_exact field f frame o (have_orders field f frame os c.in_ok-orders.ensures.orders) c.loop-k.maps.items c.loop-k.sorted.items
    (subst (λ n. AreSorted f o n c.loop-k.maps.items c.loop-k.sorted.items) e c.loop-k.invariant)

pub returns-clause-first : goal.returns-clause-first
returns-clause-first g c =
    let field = g.met.F.Field.field_laws in
    let f = c.args.frame.now in
    let frame = c.complex-complex.ensures.of in
    let os = c.in_ok-orders.orders.items in
    let o : ℕ → List ℕ = λ k. get_or os k [] in
    let all = ap length c.degrees-all.ensures.value in
    let e : c.loop-k.k ≡ length f.maps = omega (arith, c.loop-k-test.false, c.loop-k.auto.k-end, all, frame.resolution.one_each) in
    first_rows field f frame os c.in_ok-orders.ensures.orders c.loop-k.maps.items c.loop-k.sorted.items
    (subst (λ n. AreSorted f o n c.loop-k.maps.items c.loop-k.sorted.items) e c.loop-k.invariant)
