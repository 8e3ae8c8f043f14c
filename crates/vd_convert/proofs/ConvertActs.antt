-- Where conversions act.
use Rattle.std.proofs.Common.{◌≡◌, ℕ, nat_eq, Bool, true, false, ◌||◌, List, [], ◌∷◌, ◌++◌, map, refl, ap₂, ◌∙◌}
use Rattle.std.proofs.lemmas.List.Folds.{list_any-append}
use Rattle.vd_base.specs.declared.ids.HostId.{HostId}
use Rattle.vd_base.specs.declared.operations.Op.TheVariants as op
use Rattle.vd_duet.specs.Acting.{is_either, acts_in, acts_at}
use Rattle.vd_duet.specs.Calls.{Places, Made}
use Rattle.vd_backend_sharing.specs.declared.shares.PartRegisters.{PartRegisters}
use Rattle.vd_backend_sharing.specs.PairCalls.{shares_of, places_at}
use Rattle.vd_bits.specs.BitCalls.{circuit_shares, computed, bit_serves}
use Rattle.vd_bits.proofs.Front.{computed_acts}
use Rattle.vd_convert.specs.Convert.{masked_parts, drawn, finished, to_xor_made, to_add_made}
use Rattle.vd_convert.specs.Law.{ConversionsActAtBoth}

masked_first : (p q : Bool) → ((p || q) || (p || (q || false))) ≡ (p || q)
masked_first true q = refl
masked_first false true = refl
masked_first false false = refl

once : (p q : Bool) → ((p || q) || false) ≡ (p || q)
once true q = refl
once false true = refl
once false false = refl

twice : (p q : Bool) → ((p || q) || (p || q)) ≡ (p || q)
twice true q = refl
twice false true = refl
twice false false = refl

finished_both : (p q : Bool) → ((p || q) || ((q || p) || (p || (p || (q || false))))) ≡ (p || q)
finished_both true q = refl
finished_both false true = refl
finished_both false false = refl

pub conversions_act : ConversionsActAtBoth
conversions_act = record {
  to_bits = λ a b x next h.
      let p : Bool = nat_eq h a.0 in
      let q : Bool = nat_eq h b.0 in
      let words : Made (PartRegisters × PartRegisters) = masked_parts a b (shares_of x) next in
      let xs : List Places = places_at a b words.given.0 ∷ places_at a b words.given.1 ∷ [] in
      list_any-append (acts_in h) words.gadgets (computed a b op.Add xs words.next).gadgets
      ∙ ap₂ (λ (i j : Bool). i || j) (masked_first (nat_eq h a.0) (nat_eq h b.0)) (computed_acts a b op.Add refl xs words.next h)
      ∙ twice (nat_eq h a.0) (nat_eq h b.0);
  to_sums = λ a b x next h.
      let pair : Made (PartRegisters × PartRegisters) = drawn a b (shares_of x) next in
      let rest : Made Places = computed a b op.Sub (x ∷ places_at a b pair.given.1 ∷ []) pair.next in
      let end : Made PartRegisters = finished a b (shares_of rest.given) pair.given.0 rest.next in
      list_any-append (acts_in h) pair.gadgets (rest.gadgets ++ end.gadgets)
      ∙ ap₂ (λ (i j : Bool). i || j) (once (nat_eq h a.0) (nat_eq h b.0))
      (list_any-append (acts_in h) rest.gadgets end.gadgets
      ∙ ap₂ (λ (i j : Bool). i || j) (computed_acts a b op.Sub refl (x ∷ places_at a b pair.given.1 ∷ []) pair.next h) (finished_both (nat_eq h a.0) (nat_eq h b.0))
      ∙ twice (nat_eq h a.0) (nat_eq h b.0))
      ∙ twice (nat_eq h a.0) (nat_eq h b.0);
}
