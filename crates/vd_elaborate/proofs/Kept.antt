-- The let-normal form of a source does what the source does.
use Rattle.std.proofs.Common.{◌≡◌, ℕ, suc, true≢false, List, [], ◌∷◌, ◌++◌, map, length, refl, ap, ◌∙◌, arith}
use Rattle.vd_core.specs.declared.source.Function.{Function}
use Rattle.vd_core.specs.declared.source.Host.{Host}
use Rattle.vd_core.specs.declared.source.Source.{Source}
use Rattle.vd_semantics.specs.declared.held.Held.TheVariants.{Bound}
use Rattle.vd_semantics.specs.World.{World, world_at_start}
use Rattle.vd_base.specs.Names.{Named, bound}
use Rattle.vd_semantics.specs.Functions.{in_text_order}
use Rattle.vd_semantics.specs.ProgramMeaning.{SlotState, block_effect, state_at_start, program_outputs}
use Rattle.vd_semantics.specs.SourceMeaning.{State, Callee, evaluation, in_sequence, execution, callee_of, callees_of, parameter_names, host_names, source_end, source_outputs}
use Rattle.vd_elaborate.specs.declared.anf.spot.Spot.TheVariants.{Binding}
use Rattle.vd_elaborate.specs.Normal.{Made, Inlining, lowering_of, statements_made, inlining_of, inlinings_of, main_made, normal_form}
use Rattle.vd_elaborate.proofs.Slots.{Good, held}
use Rattle.vd_elaborate.proofs.Gives.{ran, AllBelow, words, CallMeans, Sights, sights_push}
use Rattle.vd_elaborate.proofs.Exprs.{expr_means}
use Rattle.vd_elaborate.proofs.Effects.{view, NotVar, place, sequence_means}
use Rattle.vd_elaborate.proofs.Statements.{all_both}

-- parameters are bindings
bound_apart : (k : ℕ) (xs : List (List ℕ)) (ks : List ℕ) → NotVar k (bound Binding xs ks)
bound_apart k [] ks = tt
bound_apart k (x ∷ xs) [] = tt
bound_apart k (x ∷ xs) (j ∷ js) = (λ v is. absurd (true≢false v), bound_apart k xs js)

bound_good : (xs : List (List ℕ)) (ks : List ℕ) (n : ℕ) → AllBelow ks n → Good (bound Binding xs ks) n
bound_good [] ks n h = tt
bound_good (x ∷ xs) [] n h = tt
bound_good (x ∷ xs) (k ∷ ks) n h = (h.0, bound_apart k xs ks, bound_good xs ks n h.1)

held_bound : (s : SlotState) (xs : List (List ℕ)) (ks : List ℕ) → held s (bound Binding xs ks) ≡ bound Bound xs (words s ks)
held_bound s [] ks = refl
held_bound s (x ∷ xs) [] = refl
held_bound s (x ∷ xs) (k ∷ ks) = rw (held_bound s xs ks) refl

module _ (hosts : List (List ℕ)) where
  function_means : (f : Function) (gs : Named Callee) (is : Named Inlining) → Sights gs is → CallMeans (callee_of hosts f gs) (inlining_of hosts f is)
  function_means f gs is h here ks m turn s0 below =
      let s = ran m turn s0 in
      let xs = parameter_names f.parameters in
      let names = bound Binding xs ks in
      let p = statements_made (map (lowering_of hosts) f.body) is here.block (place names m) in
      let s1 = ran p.made turn s0 in
      let t = in_sequence (map (execution hosts) f.body) gs (record { env = bound Bound xs (words s ks); world = s.world }) in
      let d = sequence_means (map (execution hosts) f.body) (map (lowering_of hosts) f.body) (all_both hosts f.body) gs is h names here.block m turn s0 (bound_good xs ks m.next below) in
      let seen : view p.names s1 ≡ t = d.seen ∙ ap (λ env. in_sequence (map (execution hosts) f.body) gs (record { env = env; world = s.world })) (held_bound s xs ks) in
      let g = (expr_means hosts f.gives).runs gs is h p.names here p.made turn s0 d.good in
      let values = ap (λ (z : State). evaluation hosts f.gives gs z.env z.world) seen in
      let more1 = d.more in
      let more2 = g.more in
      record {
        value = g.value ∙ ap (λ (z : ℕ × World). z.0) values;
        world = g.world ∙ ap (λ (z : ℕ × World). z.1) values;
        more = omega arith;
        below = g.below;
        same = λ k lt. g.same k (omega arith) ∙ d.same k lt (bound_apart k xs ks);
        fresh = λ e. absurd (true≢false e);
      }

  sights : (fs : List Function) (gs : Named Callee) (is : Named Inlining) → Sights gs is → Sights (in_text_order (callee_of hosts) gs fs) (in_text_order (inlining_of hosts) is fs)
  sights [] gs is h = h
  sights (f ∷ fs) gs is h =
      sights fs (gs ++ (f.name.name, callee_of hosts f gs) ∷ []) (is ++ (f.name.name, inlining_of hosts f is) ∷ []) (sights_push f.name.name (callee_of hosts f gs) (inlining_of hosts f is) (function_means f gs is h) gs is h)

-- from any inputs, and whatever the slots had, the statements leave the world that the source leaves
world_kept : (source : Source) (turn : ℕ) (s : SlotState) → (block_effect (main_made source).body turn s).world ≡ source_end source s.world
world_kept source turn s =
    let hosts = host_names source.hosts in
    let m : Made = record { next = 0; slots = []; blocks = 1; body = [] } in
    let gs = callees_of hosts source.functions in
    let is = inlinings_of hosts source.functions in
    let d = sequence_means (map (execution hosts) source.main) (map (lowering_of hosts) source.main) (all_both hosts source.main) gs is (sights hosts source.functions [] [] tt) [] 0 m turn s tt in
    ap (λ (z : State). z.world) d.seen

names_length : (hs : List Host) → length (host_names hs) ≡ length hs
names_length [] = refl
names_length (h ∷ hs) = ap suc (names_length hs)

-- each host is told the same
pub outputs_kept : (source : Source) (inputs : List (List ℕ)) → program_outputs (normal_form source) inputs ≡ source_outputs source inputs
outputs_kept source inputs =
    let w = world_at_start (length source.hosts) inputs in
    ap (λ n. (block_effect (main_made source).body 0 (state_at_start (world_at_start n inputs))).world.outputs) (names_length source.hosts)
    ∙ ap (λ (z : World). z.outputs) (world_kept source 0 (state_at_start w))
