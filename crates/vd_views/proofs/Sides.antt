-- Gadgets one after the other, in two runs.
use Rattle.std.proofs.Common.{◌≡◌, ℕ, List, [], ◌∷◌, ◌++◌, ◌⊎◌, inl, inr, refl, sym, ap, subst₂, ◌∙◌}
use Rattle.vd_execution.specs.Step.{Source, OwnWords}
use Rattle.vd_execution.specs.World.{Tape}
use Rattle.vd_execution.specs.Joint.{Host, Hosts}
use Rattle.vd_execution.specs.Acts.{run_acts}
use Rattle.vd_execution.specs.Gadgets.{Gadget, Alone, Tells, Shares, BothShare, Opens, Masked, Paired, acts_of_gadget, acts_of_gadgets, GadgetIsTidy, GadgetsAreTidy}
use Rattle.vd_execution.proofs.Front.{gadget_sound}
use Rattle.vd_views.specs.Views.{Coalition, IsIn, IsOut}
use Rattle.vd_views.specs.Moved.{GadgetOwns, GadgetsOwn}
use Rattle.vd_views.proofs.Coalitions.{in_or_out}
use Rattle.vd_views.specs.Hiding.{next_item, AlongGadgets, GadgetHides, GadgetKnows, GadgetsHide, GadgetsKnow}
use Rattle.vd_views.proofs.Hiding.{gadget_alike, run_append}
use Rattle.vd_views.specs.Sides.{AreKin, Both, after, Telling, Each, IsQuiet}

-- the state after gadgets is that after their acts
pub after_acts : (t : Tape) (gs : List Gadget) (w : Hosts) → after t gs w ≡ run_acts t (acts_of_gadgets gs) w
after_acts t [] w = refl
after_acts t (g ∷ gs) w = after_acts t gs (run_acts t (acts_of_gadget g) w) ∙ sym (run_append t (acts_of_gadget g) (acts_of_gadgets gs) w)

pub after_append : (t : Tape) (xs ys : List Gadget) (w : Hosts) → after t (xs ++ ys) w ≡ after t ys (after t xs w)
after_append t [] ys w = refl
after_append t (x ∷ xs) ys w = after_append t xs ys (run_acts t (acts_of_gadget x) w)

pub each_append : {X : Type 0} (P : X → Type 0) (xs ys : List X) → Each P xs → Each P ys → Each P (xs ++ ys)
each_append P [] ys a b = b
each_append P (x ∷ xs) ys a b = (a.0, each_append P xs ys a.1 b)

tidy_split : (xs ys : List Gadget) → GadgetsAreTidy (xs ++ ys) → GadgetsAreTidy xs × GadgetsAreTidy ys
tidy_split [] ys a = (tt, a)
tidy_split (x ∷ xs) ys a = let rest = tidy_split xs ys a.1 in ((a.0, rest.0), rest.1)

module _ (t y : Tape) (P : Gadget → Hosts → Hosts → Type 0) where
  along_split : (xs ys : List Gadget) (w v : Hosts) → AlongGadgets P t y (xs ++ ys) w v → AlongGadgets P t y xs w v × AlongGadgets P t y ys (after t xs w) (after y xs v)
  along_split [] ys w v a = (tt, a)
  along_split (x ∷ xs) ys w v a = let rest = along_split xs ys (run_acts t (acts_of_gadget x) w) (run_acts y (acts_of_gadget x) v) a.1 in ((a.0, rest.0), rest.1)

  along_on : (xs ys : List Gadget) (w v : Hosts) → AlongGadgets P t y xs w v → AlongGadgets P t y ys (after t xs w) (after y xs v) → AlongGadgets P t y (xs ++ ys) w v
  along_on [] ys w v a b = b
  along_on (x ∷ xs) ys w v a b = (a.0, along_on xs ys (run_acts t (acts_of_gadget x) w) (run_acts y (acts_of_gadget x) v) a.1 b)

module _ (K : Coalition) (t y : Tape) (kin : AreKin K t y) where
  pub both_step : (g : Gadget) (w v : Hosts) → GadgetIsTidy g → Both K w v → GadgetHides K t y g w v → GadgetKnows K t y g w v → Both K (run_acts t (acts_of_gadget g) w) (run_acts y (acts_of_gadget g) v)
  both_step g w v tidy b hides knows = record {
    first = gadget_sound t kin.first g tidy w b.first;
    second = gadget_sound y kin.second g tidy v b.second;
    looks = gadget_alike K t y kin.part g w v tidy b.first b.second b.looks hides knows;
  }

  pub both_all : (gs : List Gadget) (w v : Hosts) → GadgetsAreTidy gs → Both K w v → GadgetsHide K t y gs w v → GadgetsKnow K t y gs w v → Both K (after t gs w) (after y gs v)
  both_all [] w v tidy b hides knows = b
  both_all (g ∷ gs) w v tidy b hides knows =
      both_all gs (run_acts t (acts_of_gadget g) w) (run_acts y (acts_of_gadget g) v) tidy.1 (both_step g w v tidy.0 b hides.0 knows.0) hides.1 knows.1

  -- a host's next own word: one inside has taken as many in both runs
  own_known : (w v : Hosts) → Both K w v → (a : ℕ) → (IsOut K a → next_item t w a OwnWords ≡ next_item y v a OwnWords) → next_item t w a OwnWords ≡ next_item y v a OwnWords
  own_known w v b a outside = at (in_or_out K a)
    where
      at : IsIn K a ⊎ IsOut K a → next_item t w a OwnWords ≡ next_item y v a OwnWords
      at (inl i) = ap (λ (f : Source → ℕ → List ℕ). f OwnWords ((w a).cursors OwnWords)) (kin.part a i) ∙ ap (λ (k : Host). y a OwnWords (k.cursors OwnWords)) (b.looks a i).itself
      at (inr o) = outside o

  quiet_known : (g : Gadget) (w v : Hosts) → IsQuiet g → Both K w v → GadgetOwns K t y g w v → GadgetKnows K t y g w v
  quiet_known (Alone k a) w v q b owns = tt
  quiet_known (Tells a said c heard) w v q b owns = absurd q
  quiet_known (Shares a r c heard) w v q b owns = λ e. own_known w v b a.0 (λ o. owns e o)
  quiet_known (BothShare a r heard c p heard_b) w v q b owns = ((λ e. own_known w v b a.0 (λ o. owns.0 e o)), (λ e. own_known w v b c.0 (λ o. owns.1 e o)))
  quiet_known (Opens sharing a x c z heard) w v q b owns = absurd q
  quiet_known (Masked sharing m n) w v q b owns = tt
  quiet_known (Paired p r) w v q b owns = tt

  -- a gadget, and then the rest
  pub telling_then : (g : Gadget) (gs : List Gadget) (w v : Hosts) → (Both K w v → GadgetHides K t y g w v → GadgetKnows K t y g w v) → Telling K t y gs (run_acts t (acts_of_gadget g) w) (run_acts y (acts_of_gadget g) v)
      → Telling K t y (g ∷ gs) w v
  telling_then g gs w v known rest b tidy hides owns = let k = known b hides.0 in (k, rest (both_step g w v tidy.0 b hides.0 k) tidy.1 hides.1 owns.1)

  pub telling_quiet : (gs : List Gadget) (w v : Hosts) → Each IsQuiet gs → Telling K t y gs w v
  telling_quiet [] w v q b tidy hides owns = tt
  telling_quiet (g ∷ gs) w v q b tidy hides owns =
      telling_then g gs w v (λ c e. quiet_known g w v q.0 c owns.0) (telling_quiet gs (run_acts t (acts_of_gadget g) w) (run_acts y (acts_of_gadget g) v) q.1) b tidy hides owns

  -- gadgets, and then others from where they lead
  pub telling_on : (xs ys : List Gadget) (w v w1 v1 : Hosts) → after t xs w ≡ w1 → after y xs v ≡ v1 → Telling K t y xs w v → Telling K t y ys w1 v1 → Telling K t y (xs ++ ys) w v
  telling_on xs ys w v w1 v1 e f first second b tidy hides owns =
      let ts = tidy_split xs ys tidy in
      let hs = along_split t y (GadgetHides K t y) xs ys w v hides in
      let os = along_split t y (GadgetOwns K t y) xs ys w v owns in
      let k = first b ts.0 hs.0 os.0 in
      let P : Hosts → Hosts → Type 0 = λ x z. GadgetsHide K t y ys x z → GadgetsOwn K t y ys x z → Both K x z → GadgetsKnow K t y ys x z in
      let more : P (after t xs w) (after y xs v) = subst₂ P (sym e) (sym f) (λ a o c. second c ts.1 a o) in
      along_on t y (GadgetKnows K t y) xs ys w v k (more hs.1 os.1 (both_all xs w v ts.0 b hs.0 k))
