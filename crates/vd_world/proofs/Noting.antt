-- What a step shows, and what is kept of it.
use Rattle.std.proofs.Common.{◌≡◌, ℕ, suc, ◌+◌, ◌<◌, List, [], ◌∷◌, ◌++◌, length, get_or, get_or-set_same, get_or-set_other, refl, sym, ap, ◌∙◌, inl, inr, add-one}
use Rattle.std.specs.Prelude.{Option, None, Some, slice_set, slice_index, slice_index_or}
use Rattle.std.proofs.lemmas.List.{get_or_default}
use mathlib.Core.Path.{fun_ext}
use Rattle.vd_execution.specs.Registers.{Registers, put}
use Rattle.vd_execution.specs.Code.{Code, Finished, Then, Send, Recv, Choose, Repeat}
use Rattle.vd_execution.specs.Step.{State, Cursors, Nothing, Packet, need_of, need, word_printed, deed_of_print, Deed, Quiet, Said, Heard, Printed, deed_of, deed}
use Rattle.vd_execution.specs.World.{done}
use Rattle.vd_execution.proofs.Front.{put_same, put_other, same_or_not}
use Rattle.vd_machine.specs.declared.lists.Lists.{Lists}
use Rattle.vd_machine.specs.declared.want.Want.TheVariants as want
use Rattle.vd_machine.specs.Wants.{want_of}
use Rattle.vd_machine.specs.Dids.{seen}
use Rattle.vd_world.specs.Hosts.{local}
use Rattle.vd_machine.proofs.Front.{acts_alone}

-- ---- what was wanted

hears_code : (f : Registers) (c : Code) (p n : ℕ) → need_of f c ≡ Packet p n → deed_of f c ≡ Heard p
hears_code f Finished p n e = absurd cc
hears_code f (Then a c) p n e = absurd (acts_alone f a p n e)
hears_code f (Send q rs c) p n e = absurd cc
hears_code f (Recv q rs c) p n e = ap Heard (the_peer q p (length rs) n e)
  where
    the_peer : (q p m n : ℕ) → Packet q m ≡ Packet p n → q ≡ p
    the_peer q p m n e = cc
hears_code f (Choose g first other c) p n e = absurd cc
hears_code f (Repeat r turn count body c) p n e = absurd cc

pub hears : (m : State) (p n : ℕ) → need m ≡ Packet p n → deed m ≡ Heard p
hears m p n e = hears_code m.registers m.pending p n e

-- ---- what nobody sees

unprinted : (o : Option ℕ) → Quiet ≡ seen (deed_of_print o) → deed_of_print o ≡ Quiet
unprinted None e = refl
unprinted (Some x) e = absurd cc

unheard_code : (l : Lists) (k : Cursors) (f : Registers) (c : Code) → want.Nothing ≡ want_of l k (need_of f c) → Quiet ≡ seen (deed_of f c) → deed_of f c ≡ Quiet
unheard_code l k f Finished w e = refl
unheard_code l k f (Then a c) w e = unprinted (word_printed f a) e
unheard_code l k f (Send q rs c) w e = absurd cc
unheard_code l k f (Recv q rs c) w e = absurd cc
unheard_code l k f (Choose g first other c) w e = refl
unheard_code l k f (Repeat r turn count body c) w e = refl

-- a step that waits for nothing hears nothing
pub unheard : (l : Lists) (s : State) → want.Nothing ≡ want_of l s.cursors (need s) → Quiet ≡ seen (deed s) → deed s ≡ Quiet
unheard l s w e = unheard_code l s.cursors s.registers s.pending w e

-- ---- what was said

seen_said : (d : Deed) (p : ℕ) (xs : List ℕ) → Said p xs ≡ seen d → d ≡ Said p xs
seen_said Quiet p xs e = absurd cc
seen_said (Said q ys) p xs e = sym e
seen_said (Heard q) p xs e = absurd cc
seen_said (Printed x) p xs e = absurd cc

said_at : (links : List (List (List ℕ))) (p : ℕ) (old new : List (List ℕ)) (words : List ℕ) → p < length links → old ≡ get_or links p old → new ≡ old ++ words ∷ [] → (q : ℕ)
    → slice_index_or (slice_set links p new) q [] ≡ put (λ i. slice_index_or links i []) p (slice_index_or links p [] ++ words ∷ []) q
said_at links p old new words h e f q =
    elim (same_or_not q p) [
      | inl s ↦
          ap (λ i. get_or (slice_set links p new) i []) s ∙ get_or-set_same links p new [] h ∙ f
          ∙ ap (λ l. l ++ words ∷ []) (e ∙ get_or_default links p old [] h)
          ∙ sym (ap (put (λ i. slice_index_or links i []) p (slice_index_or links p [] ++ words ∷ [])) s ∙ put_same (λ i. slice_index_or links i []) p (slice_index_or links p [] ++ words ∷ []))
      | inr d ↦ get_or-set_other links p q new [] d ∙ sym (put_other (λ i. slice_index_or links i []) p (slice_index_or links p [] ++ words ∷ []) q d)
    ]

pub noted_said : (m s : State) (printed taken : List ℕ) (links : List (List (List ℕ))) (p : ℕ) (old new : List (List ℕ)) (words : List ℕ) (d : Deed)
    → p < length links → old ≡ get_or links p old → new ≡ old ++ words ∷ [] → Said p words ≡ seen d
    → local m printed (slice_set links p new) taken ≡ done (local s printed links taken) m d
noted_said m s printed taken links p old new words d h e f k =
    let g = fun_ext (said_at links p old new words h e f) in
    (λ i. record { state = m; printed = printed; sent = g i; taken = λ q. slice_index taken q })
    ∙ ap (done (local s printed links taken) m) (sym (seen_said d p words k))

-- ---- what was heard

heard_at : (taken : List ℕ) (p x : ℕ) → p < length taken → x ≡ get_or taken p x → (q : ℕ)
    → slice_index (slice_set taken p (x + 1)) q ≡ put (λ i. slice_index taken i) p (suc (slice_index taken p)) q
heard_at taken p x h e q =
    elim (same_or_not q p) [
      | inl s ↦
          ap (λ i. get_or (slice_set taken p (x + 1)) i 0) s ∙ get_or-set_same taken p (x + 1) 0 h ∙ add-one x
          ∙ ap suc (e ∙ get_or_default taken p x 0 h)
          ∙ sym (ap (put (λ i. slice_index taken i) p (suc (slice_index taken p))) s ∙ put_same (λ i. slice_index taken i) p (suc (slice_index taken p)))
      | inr d ↦ get_or-set_other taken p q (x + 1) 0 d ∙ sym (put_other (λ i. slice_index taken i) p (suc (slice_index taken p)) q d)
    ]

pub noted_heard : (m s : State) (printed taken : List ℕ) (links : List (List (List ℕ))) (p x : ℕ) (d : Deed)
    → p < length taken → x ≡ get_or taken p x → d ≡ Heard p
    → local m printed links (slice_set taken p (x + 1)) ≡ done (local s printed links taken) m d
noted_heard m s printed taken links p x d h e k =
    let g = fun_ext (heard_at taken p x h e) in
    (λ i. record { state = m; printed = printed; sent = λ q. slice_index_or links q []; taken = g i })
    ∙ ap (done (local s printed links taken) m) (sym k)
