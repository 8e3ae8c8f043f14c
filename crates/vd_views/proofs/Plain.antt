-- Where a host of the coalition alone is bound by a commitment, no host outside takes an own word by itself in the plan of a program.
use Rattle.std.proofs.Common.{◌∙◌, ℕ, List, [], ◌∷◌, sym, true≢false}
use Rattle.vd_base.specs.declared.ids.HostId.{HostId}
use Rattle.vd_base.specs.declared.operations.Op.TheVariants as op
use Rattle.vd_base.specs.declared.protocols.Proto.{Proto}
use Rattle.vd_execution.specs.declared.instructions.Reg.{Reg}
use Rattle.vd_duet.specs.Calls.{Places}
use Rattle.vd_commit.specs.declared.ends.Held.{Held}
use Rattle.vd_commit.specs.declared.ends.Seen.{Seen}
use Rattle.vd_commit.specs.Commit.{committed, revealed}
use Rattle.vd_backend_sharing.specs.PairCalls.{shares_of, places_at}
use Rattle.vd_backend_sharing.specs.Gates.{gates_of}
use Rattle.vd_bits.specs.BitCalls.{computed}
use Rattle.vd_convert.specs.Convert.{drawn, finished, to_add_made}
use Rattle.vd_execution.specs.Gadgets.{Gadget}
use Rattle.vd_split.specs.Block.{Block, each}
use Rattle.vd_split.specs.Emission.{Emitting, in_turn, stmt_emission}
use Rattle.vd_backend_laws.specs.Parts.{suite_calls}
use Rattle.vd_views.specs.Views.{Coalition, IsIn, IsOut}
use Rattle.vd_views.specs.Sides.{Each, IsBoundWithin, IsPlain, PlanIsPlain}
use Rattle.vd_views.proofs.Sides.{each_append}
use Rattle.vd_views.proofs.Ordinary.{AreUsual, all_plain, all_usual, gates_ordinary}
use Rattle.vd_views.proofs.Kept.{plan_kept}
use Rattle.vd_views.proofs.Compose.{plain_on, plain_acts}

abbrev ArePlain : Coalition → List Gadget → Type 0
ArePlain K gs = Each (IsPlain K) gs

to_add_plain : (K : Coalition) (a b : HostId) (x : Places) (next : List ℕ) → ArePlain K (to_add_made a b x next).gadgets
to_add_plain K a b x next =
    let pair = drawn a b (shares_of x) next in
    let rest = computed a b op.Sub (x ∷ places_at a b pair.given.1 ∷ []) pair.next in
    let end = finished a b (shares_of rest.given) pair.given.0 rest.next in
    let usual : AreUsual end.gadgets = (tt, (tt, (tt, (tt, (tt, tt))))) in
    (tt, each_append (IsPlain K) rest.gadgets end.gadgets (all_plain K rest.gadgets (all_usual rest.gadgets (gates_ordinary a b (gates_of op.Sub) _ pair.next))) (all_plain K end.gadgets usual))

-- eight own words of a host of the coalition, their digest, and what it tells
bound_plain : (K : Coalition) (u v : HostId) → IsIn K u.0 → (x : Reg) (next : List ℕ) → ArePlain K (committed u v x next).gadgets
bound_plain K u v m x next = (own, (own, (own, (own, (own, (own, (own, (own, ((λ o. tt), (tt, tt))))))))))
  where
    own : {X : Type 0} → IsOut K u.0 → X
    own o = absurd (true≢false (sym m ∙ o))

told_plain : (K : Coalition) (u v : HostId) (held : Held) (seen : Seen) (next : List ℕ) → ArePlain K (revealed u v held seen next).gadgets
told_plain K u v held seen next =
    let usual : AreUsual (revealed u v held seen next).gadgets = (tt, (tt, (tt, (tt, (tt, (tt, (tt, (tt, (tt, (tt, tt)))))))))) in
    all_plain K (revealed u v held seen next).gadgets usual

pub plan_plain : (K : Coalition) (hosts : ℕ) (proto : ℕ → Proto) → ((x : ℕ) → IsBoundWithin K (proto x)) → (b : Block) (e : Emitting (suite_calls hosts) proto)
    → PlanIsPlain K ((in_turn (suite_calls hosts) proto (each (stmt_emission (suite_calls hosts) proto) b)).emit e).tree
plan_plain K hosts proto bound b e =
    plan_kept (ArePlain K) (PlanIsPlain K) (IsBoundWithin K) (record {
      local = λ k. tt;
      bound = bound_plain K;
      told_word = λ u v m. told_plain K u v;
      usual = all_plain K;
      to_sums = to_add_plain K;
      both = each_append (IsPlain K);
      ends = tt;
      branch = λ ps first other p q. (p, (q, tt));
      loop = λ ps count body p. (p, tt);
      acts = plain_acts K;
      on = plain_on K;
    }) hosts proto bound b e
