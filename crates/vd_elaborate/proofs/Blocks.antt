-- The names that a block leaves.
use Rattle.std.proofs.Common.{◌≡◌, ℕ, zero, suc, List, [], ◌∷◌, ◌++◌, map, length, take, refl, sym, ap, ◌∙◌, subst, append-nil, append_assoc}
use Rattle.vd_core.specs.declared.source.Statement.{Statement, roll-Statement, map-Statement, ind-Statement}
use Rattle.vd_core.specs.declared.source.Statement.TheOpen.{Statement-F}
use Rattle.vd_core.specs.declared.source.Statement.TheFolds.{fold-roll-Statement}
use Rattle.vd_base.specs.Names.{Named}
use Rattle.vd_elaborate.specs.declared.anf.spot.Spot.{Spot}
use Rattle.vd_elaborate.specs.Normal.{Inlining, Made, Place, StatementLowering, statement_lowering, lowering_of, statements_made}

take_front : (xs ys : Named Spot) → take (length xs) (xs ++ ys) ≡ xs
take_front [] ys = refl
take_front (x ∷ xs) ys = ap (λ z. x ∷ z) (take_front xs ys)

-- a statement adds names at the end
abbrev Grows : StatementLowering → Type 0
Grows l = (is : Named Inlining) (block : ℕ) (p : Place) → (back : Named Spot) × ((l is block p).names ≡ p.names ++ back)

module _ (hosts : List (List ℕ)) where
  layer_grows : (y : Statement-F StatementLowering) → Grows (statement_lowering hosts y)
  layer_grows (Statement-F.Let at x label e) is block p = (_, refl)
  layer_grows (Statement-F.Var at x kind label e) is block p = (_, refl)
  layer_grows (Statement-F.Array at x kind size label) is block p = (_, refl)
  layer_grows (Statement-F.Store x e) is block p = ([], sym (append-nil p.names))
  layer_grows (Statement-F.Put x i e) is block p = ([], sym (append-nil p.names))
  layer_grows (Statement-F.Output at e host) is block p = ([], sym (append-nil p.names))
  layer_grows (Statement-F.If at c a b) is block p = ([], sym (append-nil p.names))
  layer_grows (Statement-F.For at x n body) is block p = ([], sym (append-nil p.names))

  abbrev M : Type 0
  M = (s : Statement) × Grows (lowering_of hosts s)

  statement_grows : (s : Statement) → Grows (lowering_of hosts s)
  statement_grows = ind-Statement (λ s. Grows (lowering_of hosts s)) (λ x y is. subst (λ z. Grows (lowering_of hosts (roll-Statement z))) is
      (subst Grows (sym (fold-roll-Statement StatementLowering (statement_lowering hosts) (map-Statement M Statement (λ m. m.0) y)))
      (layer_grows (map-Statement Statement StatementLowering (lowering_of hosts) (map-Statement M Statement (λ m. m.0) y)))))

  statements_grow : (ss : List Statement) → Grows (statements_made (map (lowering_of hosts) ss))
  statements_grow [] is block p = ([], sym (append-nil p.names))
  statements_grow (s ∷ ss) is block p =
      let one = statement_grows s is block p in
      let rest = statements_grow ss is block (lowering_of hosts s is block p) in
      (one.0 ++ rest.0, rest.1 ∙ ap (λ z. z ++ rest.0) one.1 ∙ append_assoc p.names one.0 rest.0)

  -- the names of a block go
  pub block_left : (ss : List Statement) (is : Named Inlining) (block : ℕ) (p : Place) (made : Made) (before after now : Named Spot) (n : ℕ) → n ≡ length before → now ≡ take n after
      → ◌≡◌ {A = Place} (record { names = after; made = made }) (statements_made (map (lowering_of hosts) ss) is block p) → (back : Named Spot) → p.names ≡ before ++ back → now ≡ before
  block_left ss is block p made before after now n len cut walked back start =
      let g = statements_grow ss is block p in
      let names : after ≡ (statements_made (map (lowering_of hosts) ss) is block p).names = ap (λ (z : Place). z.names) walked in
      let all : after ≡ before ++ (back ++ g.0) = names ∙ g.1 ∙ ap (λ z. z ++ g.0) start ∙ append_assoc before back g.0 in
      cut ∙ ap (λ k. take k after) len ∙ ap (take (length before)) all ∙ take_front before (back ++ g.0)
