-- The pass over joint code as a tree, and the exchanges that lead to what it gives.
use Rattle.std.proofs.Common.{◌≡◌, ℕ, zero, suc, Bool, true, false, ◌&&◌, ◌||◌, not, if◌then◌else◌, List, refl, sym, ap, ◌∙◌, subst}
use Rattle.vd_base.specs.HostSets.{host}
use Rattle.vd_execution.specs.declared.instructions.Line.{Line}
use Rattle.vd_execution.specs.declared.instructions.Line.TheVariants as line
use Rattle.vd_execution.specs.Joint.{Part, Joint, Done, Do, Msg, If, For}
use Rattle.vd_execution.specs.Text.{each_then, flat}
use Rattle.vd_reorder.specs.Turning.{Turn, Does, Tells, then_goes, MayTurn, Spot, Here, Behind, InFirst, InOther, InBody, BehindBranch, BehindLoop, with_joint, IsTurned, Turns}
use Rattle.vd_choreography_reorder.specs.Testing.{Opened, stays_behind, may_turn, may_pass}
use Rattle.vd_choreography_reorder.specs.Order.{IsCarefullyTurned, CarefulTurns, IsCarefully}
use Rattle.vd_choreography_reorder.proofs.Sound.{both, is_not, sound}

-- what is done behind as much of the code as the test lets it, and behind at most so many others
abbrev pub sunk : (Turn → Turn → Bool) → ℕ → Turn → Joint → Joint
sunk test n x Done = then_goes x Done
sunk test zero x (Do h a j) = then_goes x (Do h a j)
sunk test (suc n) x (Do h a j) = if test x (Does h a) then Do h a (sunk test n x j) else then_goes x (Do h a j)
sunk test zero x (Msg a said b heard j) = then_goes x (Msg a said b heard j)
sunk test (suc n) x (Msg a said b heard j) = if test x (Tells a said b heard) then Msg a said b heard (sunk test n x j) else then_goes x (Msg a said b heard j)
sunk test n x (If ps first other rest) = then_goes x (If ps first other rest)
sunk test n x (For ps count body rest) = then_goes x (For ps count body rest)

abbrev pub ends_then : List Part → List Line → List Line
ends_then ps behind = each_then ps (λ p. line.End (host p.0)) behind

abbrev pub elses_then : List Part → List Line → List Line
elses_then ps behind = each_then ps (λ p. line.Else (host p.0)) behind

-- the code of which these lines stand behind
abbrev pub arranged : (Turn → Turn → Bool) → (List Line → ℕ) → Joint → List Line → Joint
arranged test far Done behind = Done
arranged test far (Do h a j) behind = sunk test (far (flat j behind)) (Does h a) (arranged test far j behind)
arranged test far (Msg a said b heard j) behind = sunk test (far (flat j behind)) (Tells a said b heard) (arranged test far j behind)
arranged test far (If ps first other rest) behind =
    If ps (arranged test far first (elses_then ps (flat other (ends_then ps (flat rest behind))))) (arranged test far other (ends_then ps (flat rest behind)))
    (arranged test far rest behind)
arranged test far (For ps count body rest) behind = For ps count (arranged test far body (ends_then ps (flat rest behind))) (arranged test far rest behind)

-- ---- exchanges

module _ (opened : Opened) where
  chain : (n m : ℕ) (i j k : Joint) → CarefulTurns opened n i j → CarefulTurns opened m j k → IsCarefully opened i k
  chain zero m i j k x y = (m, subst (λ l. CarefulTurns opened m l k) (sym x) y)
  chain (suc n) m i j k x y = let r = chain n m x.0 j k x.2 y in (suc r.0, (x.0, x.1, r.1))

  on : (i j k : Joint) → IsCarefully opened i j → IsCarefully opened j k → IsCarefully opened i k
  on i j k x y = chain x.0 y.0 i j k x.1 y.1

  -- a code inside of another one
  record Around (wrap : Joint → Joint) : Type 0 where
    spot : Spot → Spot
    stands : (p : Spot) (j : Joint) → wrap (with_joint p j) ≡ with_joint (spot p) j

  lift_one : (wrap : Joint → Joint) → Around wrap → (j k : Joint) → IsCarefullyTurned opened j k → IsCarefullyTurned opened (wrap j) (wrap k)
  lift_one wrap a j k x = record {
    turned = record {
      spot = a.spot x.turned.spot;
      first = x.turned.first;
      second = x.turned.second;
      rest = x.turned.rest;
      may = x.turned.may;
      old = ap wrap x.turned.old ∙ a.stands x.turned.spot (then_goes x.turned.first (then_goes x.turned.second x.turned.rest));
      new = ap wrap x.turned.new ∙ a.stands x.turned.spot (then_goes x.turned.second (then_goes x.turned.first x.turned.rest));
    };
    apart = x.apart;
    free = x.free;
  }

  lift_all : (wrap : Joint → Joint) → Around wrap → (n : ℕ) (j k : Joint) → CarefulTurns opened n j k → CarefulTurns opened n (wrap j) (wrap k)
  lift_all wrap a zero j k x = ap wrap x
  lift_all wrap a (suc n) j k x = (wrap x.0, lift_one wrap a j x.0 x.1, lift_all wrap a n x.0 k x.2)

  lifted : (wrap : Joint → Joint) → Around wrap → (j k : Joint) → IsCarefully opened j k → IsCarefully opened (wrap j) (wrap k)
  lifted wrap a j k x = (x.0, lift_all wrap a x.0 j k x.1)

  behind_turn : (x : Turn) → Around (then_goes x)
  behind_turn x = record { spot = λ p. Behind x p; stands = λ p j. refl }

  none : (j : Joint) → IsCarefully opened j j
  none j = (0, refl)

  exchange : (x y : Turn) (j : Joint) → may_pass opened x y ≡ true → IsCarefully opened (then_goes x (then_goes y j)) (then_goes y (then_goes x j))
  exchange x y j e =
      let w = both (may_turn x y) (not (stays_behind opened x y)) e in (
        1,
        (
          then_goes y (then_goes x j),
          record { turned = record { spot = Here; first = x; second = y; rest = j; may = sound x y w.0; old = refl; new = refl }; apart = w.0; free = is_not (stays_behind opened x y) w.1 },
          refl,
        ),
      )

  sunk_at : (x y : Turn) (j k : Joint) → IsCarefully opened (then_goes x j) k → (b : Bool) → may_pass opened x y ≡ b
      → IsCarefully opened (then_goes x (then_goes y j)) (if b then then_goes y k else then_goes x (then_goes y j))
  sunk_at x y j k ih true e = on _ (then_goes y (then_goes x j)) _ (exchange x y j e) (lifted (then_goes y) (behind_turn y) (then_goes x j) k ih)
  sunk_at x y j k ih false e = none _

  sunk_leads : (n : ℕ) (x : Turn) (j : Joint) → IsCarefully opened (then_goes x j) (sunk (may_pass opened) n x j)
  sunk_leads n x Done = none _
  sunk_leads zero x (Do h a j) = none _
  sunk_leads (suc n) x (Do h a j) = sunk_at x (Does h a) j (sunk (may_pass opened) n x j) (sunk_leads n x j) (may_pass opened x (Does h a)) refl
  sunk_leads zero x (Msg a said b heard j) = none _
  sunk_leads (suc n) x (Msg a said b heard j) = sunk_at x (Tells a said b heard) j (sunk (may_pass opened) n x j) (sunk_leads n x j) (may_pass opened x (Tells a said b heard)) refl
  sunk_leads n x (If ps first other rest) = none _
  sunk_leads n x (For ps count body rest) = none _

  pub arranged_leads : (far : List Line → ℕ) (j : Joint) (behind : List Line) → IsCarefully opened j (arranged (may_pass opened) far j behind)
  arranged_leads far Done behind = none _
  arranged_leads far (Do h a j) behind =
      on _ (then_goes (Does h a) (arranged (may_pass opened) far j behind)) _
      (lifted (then_goes (Does h a)) (behind_turn (Does h a)) j (arranged (may_pass opened) far j behind) (arranged_leads far j behind))
      (sunk_leads (far (flat j behind)) (Does h a) (arranged (may_pass opened) far j behind))
  arranged_leads far (Msg a said b heard j) behind =
      on _ (then_goes (Tells a said b heard) (arranged (may_pass opened) far j behind)) _
      (lifted (then_goes (Tells a said b heard)) (behind_turn (Tells a said b heard)) j (arranged (may_pass opened) far j behind) (arranged_leads far j behind))
      (sunk_leads (far (flat j behind)) (Tells a said b heard) (arranged (may_pass opened) far j behind))
  arranged_leads far (If ps first other rest) behind =
      let ends = ends_then ps (flat rest behind) in
      let elses = elses_then ps (flat other ends) in
      let f = arranged (may_pass opened) far first elses in
      let o = arranged (may_pass opened) far other ends in
      let r = arranged (may_pass opened) far rest behind in
      on _ (If ps f other rest) _ (lifted (λ j. If ps j other rest) (record { spot = λ p. InFirst ps p other rest; stands = λ p j. refl }) first f (arranged_leads far first elses))
      (on _ (If ps f o rest) _ (lifted (λ j. If ps f j rest) (record { spot = λ p. InOther ps f p rest; stands = λ p j. refl }) other o (arranged_leads far other ends))
      (lifted (λ j. If ps f o j) (record { spot = λ p. BehindBranch ps f o p; stands = λ p j. refl }) rest r (arranged_leads far rest behind)))
  arranged_leads far (For ps count body rest) behind =
      let ends = ends_then ps (flat rest behind) in
      let b = arranged (may_pass opened) far body ends in
      on _ (For ps count b rest) _ (lifted (λ j. For ps count j rest) (record { spot = λ p. InBody ps count p rest; stands = λ p j. refl }) body b (arranged_leads far body ends))
      (lifted (λ j. For ps count b j) (record { spot = λ p. BehindLoop ps count b p; stands = λ p j. refl }) rest (arranged (may_pass opened) far rest behind) (arranged_leads far rest behind))

  -- as exchanges
  pub as_turns : (n : ℕ) (j k : Joint) → CarefulTurns opened n j k → Turns n j k
  as_turns zero j k x = x
  as_turns (suc n) j k x = (x.0, x.1.turned, as_turns n x.0 k x.2)
