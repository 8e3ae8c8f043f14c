use Rattle.std.proofs.Common.{◌≡◌, ◌++◌, ◌∙◌, ap, ap₂, sym, length, length-append, arith, List, ℕ}
use Rattle.std.specs.Prelude.{Option, Some, slice_get, take, drop, ◌-◌}
use Rattle.std.proofs.lemmas.Option.{slice_get_within}
use Rattle.vd_world.specs.Links.{begin}
use Rattle.vd_world.proofs.Cuts.{cut_at, none_at, place_fits}
use Rattle.vd_world.proofs.link.Link.packet.Goals as goal

-- what is at a place of all ends, of which two slices have a part each
at_place : (near far ends later : List ℕ) (place : ℕ) (found is : Option ℕ) → near ≡ ends → far ≡ later → found ≡ slice_get (near ++ far) place → found ≡ is
    → slice_get (ends ++ later) place ≡ is
at_place near far ends later place found is e f g h = ap₂ (λ (a b : List ℕ). slice_get (a ++ b) place) (sym e) (sym f) ∙ sym g ∙ h

begins_at : (near far ends later : List ℕ) (place start : ℕ) → near ≡ ends → far ≡ later → start ≡ begin 0 (near ++ far) place → start ≡ begin 0 (ends ++ later) place
begins_at near far ends later place start e f g = g ∙ ap₂ (λ (a b : List ℕ). begin 0 (a ++ b) place) e f

pub between-requires-clause-order : goal.between-requires-clause-order
between-requires-clause-order c =
    let l = c.self.inside in
    let there = at_place _ _ _ _ c.args.place _ _ c.deref.ensures.value c.deref-2.ensures.value c.end_of.ensures c.in-Some.is in
    let a = (place_fits 0 (l.ends.items ++ l.far_ends.items) (length l.words.items) c.args.place c.in-Some.end c.self.invariant there).0 in
    let e = begins_at _ _ _ _ c.args.place _ c.deref-in-Some.ensures.value c.deref-in-Some-2.ensures.value c.start_of-start.ensures in
    omega (arith, a, e)

pub between-requires-clause-within : goal.between-requires-clause-within
between-requires-clause-within c =
    let l = c.self.inside in
    let there = at_place _ _ _ _ c.args.place _ _ c.deref.ensures.value c.deref-2.ensures.value c.end_of.ensures c.in-Some.is in
    let a = (place_fits 0 (l.ends.items ++ l.far_ends.items) (length l.words.items) c.args.place c.in-Some.end c.self.invariant there).1 in
    let e = ap length c.deref-in-Some-3.ensures.value in
    omega (arith, a, e)

pub returns-in-None-clause-packet : goal.returns-in-None-clause-packet
returns-in-None-clause-packet c =
    let l = c.self.inside in
    ap (λ p. slice_get p c.args.place) (sym c.self.view_is)
    ∙ none_at 0 (l.ends.items ++ l.far_ends.items) l.words.items c.args.place
    (at_place _ _ _ _ c.args.place _ _ c.deref.ensures.value c.deref-2.ensures.value c.end_of.ensures c.in-None.is)

pub returns-in-Some-clause-packet : goal.returns-in-Some-clause-packet
returns-in-Some-clause-packet c =
    let l = c.self.inside in
    let there = at_place _ _ _ _ c.args.place _ _ c.deref.ensures.value c.deref-2.ensures.value c.end_of.ensures c.in-Some.is in
    let e = begins_at _ _ _ _ c.args.place _ c.deref-in-Some.ensures.value c.deref-in-Some-2.ensures.value c.start_of-start.ensures in
    ap (λ p. slice_get p c.args.place) (sym c.self.view_is)
    ∙ cut_at 0 (l.ends.items ++ l.far_ends.items) l.words.items c.args.place c.in-Some.end there
    ∙ ap Some (sym (c.between.ensures ∙ ap₂ (λ (b : ℕ) (ws : List ℕ). take (c.in-Some.end - b) (drop b ws)) e c.deref-in-Some-3.ensures.value))

pub returns-in-Some-clause-room : goal.returns-in-Some-clause-room
returns-in-Some-clause-room c =
    let l = c.self.inside in
    let there = at_place _ _ _ _ c.args.place _ _ c.deref.ensures.value c.deref-2.ensures.value c.end_of.ensures c.in-Some.is in
    let within = slice_get_within (l.ends.items ++ l.far_ends.items) c.args.place c.in-Some.end there in
    let both = length-append l.ends.items l.far_ends.items in
    omega (arith, within, both, l.ends.ok.0, l.ends.ok.1, l.ends.small, l.far_ends.ok.0, l.far_ends.ok.1, l.far_ends.small)
