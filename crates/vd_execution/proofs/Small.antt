-- The small example keeps what compiled code keeps, and its lists suffice.
use Rattle.std.proofs.Common.{◌≡◌, ◌≢◌, ℕ, zero, suc, ◌<◌, List, [], ◌∷◌, None, refl, ap, subst, ◌∙◌, ◌⊎◌, inl, inr, arith}
use Rattle.vd_execution.specs.Registers.{put}
use Rattle.vd_execution.specs.Step.{Source, Inputs, OwnWords, Triples, BitTriples, Pairs}
use Rattle.vd_execution.specs.World.{run, IsStuck, followed_by_zeros}
use Rattle.vd_execution.specs.Joint.{Within, Host, fresh, started, TakesPart, IsTidy, IsSmooth}
use Rattle.vd_execution.specs.Claims.{Suffices, last_of}
use Rattle.vd_execution.specs.Example.{example, one_input}
use Rattle.vd_execution.proofs.Compiled.{whole}
use Rattle.vd_execution.proofs.Untouched.{untouched}

zero_is_one : 0 ≡ suc zero → ⊥
zero_is_one e = omega (arith, e)

one_is_zero : suc zero ≡ 0 → ⊥
one_is_zero e = omega (arith, e)

not_one : (0 ≡ suc zero) ⊎ ⊥ → ⊥
not_one (inl e) = zero_is_one e
not_one (inr f) = f

tidy : IsTidy example
tidy = (
  one_is_zero,
  (
    refl,
    (
      ((not_one, ((λ f. f), tt)), (inl refl, (inr (inl refl), tt))),
      (
        tt,
        (((not_one, ((λ f. f), tt)), (inr (inl refl), (inl refl, (inl refl, (inl refl, tt)))), (inr (inl refl), tt)), ((one_is_zero, (refl, tt)), (tt, tt))),
      ),
    ),
  ),
)

within : Within ((0, 0) ∷ (1, 0) ∷ []) example
within = (inr (inl refl), (inr (inl refl), (inl refl, (inl refl, ((λ h t. t), ((λ h t. t), (inl refl, tt)))))))

smooth : IsSmooth (followed_by_zeros one_input) example fresh
unfolding put
smooth = (tt, (tt, (((tt, (tt, tt)), ((tt, (tt, tt)), ((tt, (tt, tt)), tt))), ((refl, (refl, tt)), (((λ e. (tt, tt)), (λ e. (refl, (tt, tt)))), (tt, tt))))))

prints : (last_of one_input example 0).printed ≡ 9 ∷ 2 ∷ []
unfolding put
prints = refl

none_taken : (i : ℕ) (A : Type 0) → i < 0 → A
none_taken i A h = absurd (omega (arith, h))

first_alone : (i : ℕ) → i < 1 → one_input 1 Inputs i ≢ None
first_alone zero h e = cc
first_alone (suc i) h e = absurd (omega (arith, h))

two_more : (g : ℕ) → TakesPart ((0, 0) ∷ (1, 0) ∷ []) (suc (suc g)) → ⊥
two_more g (inl e) = let z : suc (suc g) ≡ 0 = e in omega (arith, z)
two_more g (inr (inl e)) = let z : suc (suc g) ≡ 1 = e in omega (arith, z)
two_more g (inr (inr f)) = f

others : (g : ℕ) (source : Source) → (last_of one_input example (suc (suc g))).cursors source ≡ 0
others g source = ap (λ (s : Host). s.cursors source) (untouched (followed_by_zeros one_input) ((0, 0) ∷ (1, 0) ∷ []) (suc (suc g)) example tidy within (two_more g) fresh)

suffices_near : (source : Source) (i : ℕ) → i < (last_of one_input example 1).cursors source → one_input 1 source i ≢ None
unfolding put
suffices_near Inputs i h = first_alone i h
suffices_near OwnWords i h = none_taken i _ h
suffices_near (Triples p) i h = none_taken i _ h
suffices_near (BitTriples p) i h = none_taken i _ h
suffices_near (Pairs p) i h = none_taken i _ h

suffices_here : (source : Source) (i : ℕ) → i < (last_of one_input example 0).cursors source → one_input 0 source i ≢ None
unfolding put
suffices_here source i h = none_taken i _ h

suffices : Suffices one_input (last_of one_input example)
suffices zero source i h = suffices_here source i h
suffices (suc zero) source i h = suffices_near source i h
suffices (suc (suc g)) source i h = none_taken i _ (subst (λ n. i < n) (others g source) h)

pub printed : (b : List ℕ) → IsStuck one_input (run one_input b (started example)) → (run one_input b (started example) 0).printed ≡ 9 ∷ 2 ∷ []
printed b stuck = ap (λ w. (w 0).printed) (whole one_input example b (record { tidy = tidy; smooth = smooth }) suffices stuck).0 ∙ prints
