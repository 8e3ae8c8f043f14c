-- Where all hosts that act keep to their programs, all that send do.
use Rattle.std.proofs.Common.{◌≡◌, ℕ, nat_eq, Bool, true, false, ◌||◌, inl, inr, if◌then◌else◌, List, [], ◌∷◌, refl, sym, ap, ◌∙◌}
use Rattle.std.proofs.lemmas.Bool.{eq-eqb, eqb-true, or_cases, or_left, or_right}
use Rattle.vd_base.specs.declared.ids.HostId.{HostId}
use Rattle.vd_execution.specs.Gadgets.{Alone, BothShare, Gadget, Masked, Opens, Paired, Shares, Tells}
use Rattle.vd_duet.specs.Acting.{ActsWhereItSays, acts_at, acts_in, is_either, is_negation}
use Rattle.vd_words.specs.AddCalls.{add_calls}
use Rattle.vd_words.proofs.Front.{add_acts}
use Rattle.vd_circuit.specs.CircuitCalls.{circuit_calls, circuit_serves}
use Rattle.vd_bits.proofs.Front.{circuit_acts}
use Rattle.vd_convert.specs.Convert.{to_add_made, to_xor_made}
use Rattle.vd_convert.proofs.Front.{conversions_act}
use Rattle.vd_integrity_runs.specs.Shares.{AllSendersKeep, CallsAreKept, ConversionsAreKept, SharesAreKept}

module _ (keeps : ℕ → Bool) where
  abbrev ActorsKeep : (ℕ → Bool) → Type 0
  ActorsKeep acts = (h : ℕ) → acts h ≡ true → keeps h ≡ true

  first_of_two : (h : ℕ) (a b : HostId) → h ≡ a.0 → is_either h a b ≡ true
  first_of_two h a b e = or_left (nat_eq h a.0) (nat_eq h b.0) (eq-eqb h a.0 e)

  second_of_two : (h : ℕ) (a b : HostId) → h ≡ b.0 → is_either h a b ≡ true
  second_of_two h a b e = or_right (nat_eq h a.0) (nat_eq h b.0) (eq-eqb h b.0 e)

  senders_keep : (gadgets : List Gadget) → ActorsKeep (acts_at gadgets) → AllSendersKeep keeps gadgets
  senders_keep [] keep = tt
  senders_keep (g ∷ gadgets) keep =
      one g (λ h is. keep h (or_left (acts_in h g) (acts_at gadgets h) is)) (senders_keep gadgets (λ h is. keep h (or_right (acts_in h g) (acts_at gadgets h) is)))
    where
      one : (g : Gadget) → ActorsKeep (λ h. acts_in h g) → AllSendersKeep keeps gadgets → AllSendersKeep keeps (g ∷ gadgets)
      one (Alone h a) here more = more
      one (Tells a said b heard) here more = (here a.0 (first_of_two a.0 a b refl), more)
      one (Shares a r b heard) here more = (here a.0 (first_of_two a.0 a b refl), more)
      one (BothShare a r heard b q heard_b) here more = (here a.0 (first_of_two a.0 a b refl), (here b.0 (second_of_two b.0 a b refl), more))
      one (Opens sharing a x b y heard) here more = (here a.0 (first_of_two a.0 a b refl), more)
      one (Masked sharing m n) here more = (here m.host.0 (first_of_two m.host.0 m.host n.host refl), (here n.host.0 (second_of_two n.host.0 m.host n.host refl), more))
      one (Paired p q) here more = more

  module _ (a b : HostId) (first : keeps a.0 ≡ true) (second : keeps b.0 ≡ true) where
    of_two : (h : ℕ) → is_either h a b ≡ true → keeps h ≡ true
    of_two h is =
        elim (or_cases (nat_eq h a.0) (nat_eq h b.0) is) [
          | inl e ↦ ap keeps (eqb-true h a.0 e) ∙ first
          | inr e ↦ ap keeps (eqb-true h b.0 e) ∙ second
        ]

    of_second : (h : ℕ) → nat_eq h b.0 ≡ true → keeps h ≡ true
    of_second h is = ap keeps (eqb-true h b.0 is) ∙ second

    of_first : (h : ℕ) → nat_eq h a.0 ≡ true → keeps h ≡ true
    of_first h is = ap keeps (eqb-true h a.0 is) ∙ first

    of_holders : (h : ℕ) → (nat_eq h a.0 || (nat_eq h b.0 || false)) ≡ true → keeps h ≡ true
    of_holders h is =
        elim (or_cases (nat_eq h a.0) (nat_eq h b.0 || false) is) [
          | inl e ↦ of_first h e
          | inr e ↦ elim (or_cases (nat_eq h b.0) false e) [
            | inl f ↦ of_second h f
            | inr f ↦ absurd (cc f)
          ]
        ]

    of_some : (negation : Bool) (h : ℕ) → (if negation then nat_eq h a.0 else is_either h a b) ≡ true → keeps h ≡ true
    of_some true h is = of_first h is
    of_some false h is = of_two h is

    sums_are_kept : CallsAreKept keeps (add_calls a b)
    sums_are_kept =
        let acts = add_acts a b in
        record {
          literal = λ v next. senders_keep ((add_calls a b).literal v next).gadgets (λ h is. of_holders h (sym (acts.literal v next h) ∙ is));
          share = λ from x next. senders_keep ((add_calls a b).share from x next).gadgets (λ h is. of_two h (sym (acts.share from x next h) ∙ is));
          adopt = λ x next. senders_keep ((add_calls a b).adopt x next).gadgets (λ h is. of_second h (sym (acts.adopt x next h) ∙ is));
          show = λ x at to next. senders_keep ((add_calls a b).show x to next).gadgets (λ h is. of_two h (sym (acts.show x at to next h) ∙ is));
          show_all = λ x at next. senders_keep ((add_calls a b).show_all x next).gadgets (λ h is. of_two h (sym (acts.show_all x at next h) ∙ is));
          keep = λ x next. senders_keep ((add_calls a b).keep x next).gadgets (λ h is. of_holders h (sym (acts.keep x next h) ∙ is));
          renew = λ kept x at. senders_keep ((add_calls a b).renew kept x) (λ h is. of_holders h (sym (acts.renew kept x at h) ∙ is));
          apply = λ o serves xs next. senders_keep ((add_calls a b).apply o xs next).gadgets (λ h is. of_two h (sym (acts.apply o serves xs next h) ∙ is));
        }

    xors_are_kept : ActsWhereItSays (circuit_calls a b) → CallsAreKept keeps (circuit_calls a b)
    xors_are_kept acts = record {
      literal = λ v next. senders_keep ((circuit_calls a b).literal v next).gadgets (λ h is. of_holders h (sym (acts.literal v next h) ∙ is));
      share = λ from x next. senders_keep ((circuit_calls a b).share from x next).gadgets (λ h is. of_two h (sym (acts.share from x next h) ∙ is));
      adopt = λ x next. senders_keep ((circuit_calls a b).adopt x next).gadgets (λ h is. of_second h (sym (acts.adopt x next h) ∙ is));
      show = λ x at to next. senders_keep ((circuit_calls a b).show x to next).gadgets (λ h is. of_two h (sym (acts.show x at to next h) ∙ is));
      show_all = λ x at next. senders_keep ((circuit_calls a b).show_all x next).gadgets (λ h is. of_two h (sym (acts.show_all x at next h) ∙ is));
      keep = λ x next. senders_keep ((circuit_calls a b).keep x next).gadgets (λ h is. of_holders h (sym (acts.keep x next h) ∙ is));
      renew = λ kept x at. senders_keep ((circuit_calls a b).renew kept x) (λ h is. of_holders h (sym (acts.renew kept x at h) ∙ is));
      apply = λ o serves xs next. senders_keep ((circuit_calls a b).apply o xs next).gadgets (λ h is. of_some (is_negation o) h (sym (acts.apply o serves xs next h) ∙ is));
    }

    conversions_are_kept : ConversionsAreKept keeps a b
    conversions_are_kept = record {
      to_bits = λ x next. senders_keep (to_xor_made a b x next).gadgets (λ h is. of_two h (sym (conversions_act.to_bits a b x next h) ∙ is));
      to_sums = λ x next. senders_keep (to_add_made a b x next).gadgets (λ h is. of_two h (sym (conversions_act.to_sums a b x next h) ∙ is));
    }

pub shares_are_kept : SharesAreKept
shares_are_kept keeps a b first second = record {
  sums = sums_are_kept keeps a b first second;
  xors = xors_are_kept keeps a b first second (circuit_acts a b circuit_serves (λ o can. can));
  conversions = conversions_are_kept keeps a b first second;
}
