-- A plan that is tidy for the theory of splitting is so for the schedules.
use Rattle.std.proofs.Common.{◌≡◌, ℕ, Bool, true, ◌||◌, nat_eq, List, [], ◌∷◌, ◌⊎◌, inl, inr, refl}
use Rattle.std.proofs.lemmas.Bool.{eq-eqb, eqb-true}
use Rattle.vd_base.specs.declared.ids.HostId.{HostId}
use Rattle.vd_execution.specs.World.{Tape}
use Rattle.vd_execution.specs.Joint.{Part, TakesPart}
use Rattle.vd_execution.specs.Acts.{ActsAreWithin}
use Rattle.vd_execution.specs.Gadgets.{Gadget, Alone, Tells, Shares, BothShare, Opens, Masked, Paired, BySums, ByXors, acts_of_gadget}
use Rattle.vd_execution.specs.Plans.{Plan, Ends, Then, Branch, Loop, PlanIsWithin}
use Rattle.vd_duet.specs.Acting.{acts_in}
use Rattle.vd_split.specs.ChoreographyPlaces.{is_part, active}
use Rattle.vd_split.proofs.Front.{or_left, or_right, or_cases}
use Rattle.vd_backend_laws.specs.Machine.{machine}
use Rattle.vd_backend_laws.specs.PlanRuns.{TidyAlike}

takes : (ps : List Part) (h : ℕ) → is_part ps h ≡ true → TakesPart ps h
takes [] h e = cc
takes (p ∷ ps) h e = at (takes ps h) (or_cases (nat_eq h p.0) (is_part ps h) e)
  where
    at : (is_part ps h ≡ true → TakesPart ps h) → (nat_eq h p.0 ≡ true) ⊎ (is_part ps h ≡ true) → TakesPart (p ∷ ps) h
    at ih (inl i) = inl (eqb-true h p.0 i)
    at ih (inr i) = inr (ih i)

is_taking : (ps : List Part) (h : ℕ) → TakesPart ps h → is_part ps h ≡ true
is_taking [] h i = absurd i
is_taking (p ∷ ps) h (inl e) = or_left (nat_eq h p.0) (is_part ps h) (eq-eqb h p.0 e)
is_taking (p ∷ ps) h (inr i) = or_right (nat_eq h p.0) (is_part ps h) (is_taking ps h i)

-- two hosts that act both take part
both : (ps : List Part) (a b : HostId) → ((h : ℕ) → (nat_eq h a.0 || nat_eq h b.0) ≡ true → is_part ps h ≡ true) → TakesPart ps a.0 × TakesPart ps b.0
both ps a b f = (
  takes ps a.0 (f a.0 (or_left (nat_eq a.0 a.0) (nat_eq a.0 b.0) (eq-eqb a.0 a.0 refl))),
  takes ps b.0 (f b.0 (or_right (nat_eq b.0 a.0) (nat_eq b.0 b.0) (eq-eqb b.0 b.0 refl))),
)

gadget_within : (ps : List Part) (g : Gadget) → ((h : ℕ) → acts_in h g ≡ true → is_part ps h ≡ true) → ActsAreWithin ps (acts_of_gadget g)
gadget_within ps (Alone h a) f = (takes ps h.0 (f h.0 (eq-eqb h.0 h.0 refl)), tt)
gadget_within ps (Tells a said b heard) f = let q = both ps a b f in ((q.0, q.1), tt)
gadget_within ps (Shares a r b heard) f = let q = both ps a b f in (q.0, ((q.0, q.1), tt))
gadget_within ps (BothShare a r heard b s heard_b) f = let q = both ps a b f in (q.0, (q.1, ((q.0, q.1), ((q.1, q.0), tt))))
gadget_within ps (Opens sharing a x b y heard) f = let q = both ps a b f in ((q.0, q.1), tt)
gadget_within ps (Masked BySums m n) f = let q = both ps m.host n.host f in (q.0, (q.0, (q.0, (q.1, (q.1, (q.1, ((q.0, q.1), ((q.1, q.0), tt))))))))
gadget_within ps (Masked ByXors m n) f = let q = both ps m.host n.host f in (q.0, (q.0, (q.0, (q.1, (q.1, (q.1, ((q.0, q.1), ((q.1, q.0), tt))))))))
gadget_within ps (Paired p r) f = let q = both ps p.host r.host f in (q.0, (q.1, tt))

module _ (t : Tape) (inputs : ℕ → List ℕ) where
  pub within : (ps : List Part) (plan : Plan Gadget) → ((h : ℕ) → active (machine t inputs) plan h ≡ true → is_part ps h ≡ true) → PlanIsWithin ps plan
  within ps Ends f = tt
  within ps (Then g rest) f = (
    gadget_within ps g (λ h i. f h (or_left (acts_in h g) (active (machine t inputs) rest h) i)),
    within ps rest (λ h i. f h (or_right (acts_in h g) (active (machine t inputs) rest h) i)),
  )
  within ps (Branch qs first other rest) f =
      let inner : ℕ → Bool = λ h. is_part qs h || active (machine t inputs) first h || active (machine t inputs) other h in (
        (λ h i. takes ps h (f h (or_left (inner h) (active (machine t inputs) rest h)
            (or_left (is_part qs h || active (machine t inputs) first h) (active (machine t inputs) other h) (or_left (is_part qs h) (active (machine t inputs) first h) (is_taking qs h i)))))),
        within ps rest (λ h i. f h (or_right (inner h) (active (machine t inputs) rest h) i)),
      )
  within ps (Loop qs count body rest) f =
      let inner : ℕ → Bool = λ h. is_part qs h || active (machine t inputs) body h in (
        (λ h i. takes ps h (f h (or_left (inner h) (active (machine t inputs) rest h) (or_left (is_part qs h) (active (machine t inputs) body h) (is_taking qs h i))))),
        within ps rest (λ h i. f h (or_right (inner h) (active (machine t inputs) rest h) i)),
      )

pub tidy_alike : TidyAlike
tidy_alike t inputs Ends d = tt
tidy_alike t inputs (Then g rest) d = (d.0, tidy_alike t inputs rest d.1)
tidy_alike t inputs (Branch ps first other rest) d = (
  (
    d.0,
    within t inputs ps first (λ h i. d.1 h (or_left (active (machine t inputs) first h) (active (machine t inputs) other h) i)),
    within t inputs ps other (λ h i. d.1 h (or_right (active (machine t inputs) first h) (active (machine t inputs) other h) i)),
  ),
  (tidy_alike t inputs first d.2, (tidy_alike t inputs other d.3, tidy_alike t inputs rest d.4)),
)
tidy_alike t inputs (Loop ps count body rest) d = ((d.0, within t inputs ps body d.1), (d.2, (tidy_alike t inputs body d.3, tidy_alike t inputs rest d.4)))
