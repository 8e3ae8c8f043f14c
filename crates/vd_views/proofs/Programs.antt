-- In the plan of a program each pair is followed by what tells the word that it converts.
use Rattle.std.proofs.Common.{ℕ, refl, List, [], ◌∷◌, map, length, sym, subst}
use Rattle.vd_base.specs.declared.ids.HostId.{HostId}
use Rattle.vd_base.specs.declared.operations.Op.TheVariants as op
use Rattle.vd_base.specs.declared.protocols.Proto.{Proto}
use Rattle.vd_duet.specs.Calls.{Places}
use Rattle.vd_backend_sharing.specs.PairCalls.{shares_of, places_at, product_shares}
use Rattle.vd_backend_sharing.specs.Gates.{gates_of}
use Rattle.vd_bits.specs.BitCalls.{computed}
use Rattle.vd_convert.specs.Convert.{drawn, finished, to_add_made}
use Rattle.vd_execution.specs.Gadgets.{Gadget}
use Rattle.vd_split.proofs.Front.{fold_each}
use Rattle.vd_split.specs.Block.{Block, block_of, each}
use Rattle.vd_split.specs.Emission.{emitting_at_start, Emitting, Emission, in_turn, stmt_emission}
use Rattle.vd_backend_laws.specs.Parts.{suite_calls}
use Rattle.vd_views.specs.ReadOff.{PlanIsReadOff, PairsAreReadOff}
use Rattle.vd_views.proofs.Rows.{AreReadOff, read_append, all_read, read_acts, read_on}
use Rattle.vd_views.proofs.Ordinary.{AreUsual, all_unpaired, all_usual, gates_ordinary}
use Rattle.vd_views.proofs.Kept.{plan_kept}

all_usual_read : (gs : List Gadget) → AreUsual gs → AreReadOff gs
all_usual_read gs e = all_read gs (all_unpaired gs e)

-- a conversion to sums takes a pair, and goes on with the difference of the word and the dealt word
to_add_read : (a b : HostId) (x : Places) (next : List ℕ) → AreReadOff (to_add_made a b x next).gadgets
unfolding gates_of product_shares
to_add_read a b x next =
    let pair = drawn a b (shares_of x) next in
    let rest = computed a b op.Sub (x ∷ places_at a b pair.given.1 ∷ []) pair.next in
    let end = finished a b (shares_of rest.given) pair.given.0 rest.next in
    (record { number = refl; first = refl; second = refl }, read_append rest.gadgets end.gadgets (all_usual_read rest.gadgets (all_usual rest.gadgets (gates_ordinary a b (gates_of op.Sub) (map shares_of (x ∷ places_at a b pair.given.1 ∷ [])) pair.next))) (tt, (tt, (tt, (tt, (tt, tt))))))

plan_read : (hosts : ℕ) (proto : ℕ → Proto) (b : Block) (e : Emitting (suite_calls hosts) proto)
    → PlanIsReadOff ((in_turn (suite_calls hosts) proto (each (stmt_emission (suite_calls hosts) proto) b)).emit e).tree
plan_read hosts proto b e =
    plan_kept AreReadOff PlanIsReadOff (λ (q : Proto). Unit {0}) (record {
      local = λ k. tt;
      bound = λ u v e x next. (tt, (tt, (tt, (tt, (tt, (tt, (tt, (tt, (tt, (tt, tt))))))))));
      told_word = λ u v e held seen next. (tt, (tt, (tt, (tt, (tt, (tt, (tt, (tt, (tt, (tt, tt))))))))));
      usual = all_usual_read;
      to_sums = to_add_read;
      both = read_append;
      ends = tt;
      branch = λ ps first other p q. (p, (q, tt));
      loop = λ ps count body p. (p, tt);
      acts = read_acts;
      on = read_on;
    }) hosts proto (λ x. tt) b e

pub pairs_read : PairsAreReadOff
pairs_read program proto =
    let calls = suite_calls (length program.hosts) in
    let begin : Emitting calls proto = emitting_at_start calls proto in
    let P : List (Emission calls proto) → Type 0 = λ es. PlanIsReadOff ((in_turn calls proto es).emit begin).tree in
    subst P (sym (fold_each (stmt_emission calls proto) program.body)) (plan_read (length program.hosts) proto (block_of program.body) begin)
