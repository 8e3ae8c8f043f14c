-- What is explained of a program at its choice of protocols.
use Rattle.std.proofs.Common.{◌≡◌, ◌≢◌, ℕ, ◌-◌, ◌<◌, ◌≤◌, true, List, Option, Some, None, length, refl, sym, ap, subst, ◌∙◌, arith}
use Rattle.std.specs.Prelude.{slice_get}
use Rattle.vd_base.specs.declared.ids.HostId.{HostId}
use Rattle.vd_base.specs.declared.protocols.Proto.{Proto}
use Rattle.vd_core.specs.declared.normal.NormalForm.{NormalForm}
use Rattle.vd_core.specs.Facts.{IsWellMade}
use Rattle.vd_constraints.specs.declared.labels.Labels.{Labels}
use Rattle.vd_core.specs.Numbers.{NumbersFit}
use Rattle.vd_space.specs.Reading.{problem_of}
use Rattle.vd_space.specs.Cheapest.{IsAssignment}
use Rattle.vd_search_stages.specs.declared.optimum.Assignment.{Assignment}
use Rattle.vd_cmd_compile.proofs.Front.{assignment_of}
use Rattle.vd_backend_laws.specs.Parts.{has_back_end}
use Rattle.vd_tape.specs.declared.deal_items.deal.Deal.{Deal}
use Rattle.vd_tape.specs.declared.deal_items.deal.DealKind.{DealKind}
use Rattle.vd_base.specs.Limits.{most_hosts}
use Rattle.vd_base.specs.Holders.{proto_in}
use Rattle.vd_tape.specs.Validity.{AreDeals, IsConsistent}
use Rattle.vd_tape.proofs.Front.{all_deals}
use Rattle.vd_tape.specs.Text.{AreDealsOf}
use Rattle.vd_execution.specs.Step.{Source, Inputs, OwnWords, Triples, BitTriples, Pairs}
use Rattle.vd_execution.specs.World.{words_of}
use Rattle.vd_execution.specs.Joint.{Hosts, fresh, joint}
use Rattle.vd_machine.specs.Machines.{list_of, pair_item, triple_item, word_item}
use Rattle.vd_deal_needs.proofs.Front.{any_there}
use Rattle.vd_projection.specs.Programs.{joint_of}
use Rattle.vd_world.specs.Supplies.{items_for}
use Rattle.vd_report.specs.Hosts.{host_of}
use Rattle.vd_cmd_plan.specs.declared.answer.Answer.{Answer}
use Rattle.vd_cmd_choice.specs.Choice.{IsSelected}
use Rattle.vd_views.specs.Explained.{IsOfTwo, plan_of}
use Rattle.vd_views.proofs.Front.{is_alone}
use Rattle.vd_machine.specs.Dealt.{dealt_count, counts_of}
use Rattle.vd_views.specs.Files.{tape_of}
use Rattle.vd_excuse.specs.Short.{short_kind, end_of, TakesNoMore}
use Rattle.vd_excuse.proofs.Front.{short_kinds_are_exact}
use Rattle.vd_excuse.specs.Excuse.{AreAsked, IsExcused, fault_of}
use Rattle.vd_noninter_protocols.specs.Difference.{view_difference}
use Rattle.vd_excuse.specs.Talk.{IsPlayable, talk}
use Rattle.vd_cmd_excuse.specs.declared.runs.Runs.{Runs}
use Rattle.vd_cmd_excuse.specs.Runs.{AreRead}
use Rattle.vd_cmd_excuse.specs.Excusing.{excuse_answer, talk_line}
use Rattle.vd_cmd_excuse.specs.Telling.{IsExcuseOf}

none_of : (kind : Option DealKind) (place : Option ℕ) → fault_of kind place ≡ None → kind ≡ None
none_of (Some kind) place e = cc
none_of None (Some place) e = cc
none_of None None e = refl

-- an item within a list is there
is_there : (inputs : List (List ℕ)) (g : ℕ) (o : Option Deal) (s : Source) (i : ℕ) → s ≢ Inputs → i < dealt_count o s → items_for inputs g o s i ≢ None
is_there inputs g None s i not low = absurd (omega (arith, low))
is_there inputs g (Some d) Inputs i not low = absurd (not refl)
is_there inputs g (Some d) OwnWords i not low = any_there word_item d.own i low
is_there inputs g (Some d) (Triples p) i not low = any_there triple_item (list_of d.triples d.me.0 p) i low
is_there inputs g (Some d) (BitTriples p) i not low = any_there triple_item (list_of d.bits d.me.0 p) i low
is_there inputs g (Some d) (Pairs p) i not low = any_there pair_item (list_of d.pairs d.me.0 p) i low

pub are_asked : (runs : Runs) → AreRead 2 runs → IsConsistent runs.dealing.deals → AreAsked runs.first runs.second runs.dealing.deals
are_asked runs read consistent = record {
  all_first = read.first;
  all_second = read.second;
  first_words = read.first_words;
  second_words = read.second_words;
  all_deals = read.all;
  dealt = read.deals;
  consistent = consistent;
}

module _ (program : NormalForm) (a : Assignment) (made : IsWellMade program) (numbers : NumbersFit program) (selected : IsSelected program a) (hosts : length program.hosts ≡ 2)
    (free : (x : ℕ) → has_back_end (proto_in a.protocols x) ≡ true) where
  of_two : (l : Labels) → IsAssignment (problem_of program l) a.protocols → IsOfTwo program l a.protocols
  of_two l valid = record { free = record { chosen = record { made = made; numbers = numbers; assignment = valid }; free = free }; hosts = hosts }

  -- and with protocols as they are read
  pub seen_two : (l : Labels) → IsAssignment (problem_of program l) a.protocols → (seen : List Proto) → seen ≡ a.protocols → IsOfTwo program l seen
  seen_two l valid seen same = subst (λ (ps : List Proto). IsOfTwo program l ps) (sym same) (of_two l valid)

  -- under the labels that the protocols are chosen under
  pub chosen_two : IsOfTwo program selected.labels a.protocols
  chosen_two = of_two selected.labels (assignment_of program a selected)

  ends_are : (inputs : List (List ℕ)) (deals : List Deal) → joint (tape_of inputs deals) (joint_of program a.protocols) fresh ≡ end_of (plan_of program a.protocols) inputs deals
  ends_are inputs deals = refl

  module _ (h : HostId) (runs : Runs) (read : AreRead 2 runs) (consistent : IsConsistent runs.dealing.deals) (stored : List Deal)
      (x : IsExcused program selected.labels a.protocols h runs.first runs.second runs.dealing.deals stored) where
    takes : TakesNoMore (plan_of program a.protocols) runs.first runs.dealing.deals
    takes =
        (short_kinds_are_exact program selected.labels a.protocols chosen_two runs.first runs.dealing.deals).0
        (none_of (short_kind (plan_of program a.protocols) runs.first runs.dealing.deals) (view_difference program selected.labels a.protocols h runs.first runs.second) x.no_fault)

    pub playable : IsPlayable program a.protocols runs.first runs.dealing.deals
    playable = record {
      files = record {
        words = read.first_words;
        few = let one = read.first in let two = read.all in omega (arith, one, two);
        dealt = subst (λ (n : ℕ). AreDealsOf n runs.dealing.deals) (sym read.all) read.deals;
        consistent = consistent;
      };
      all_inputs = read.first ∙ sym hosts;
      all_deals = read.all ∙ sym hosts;
      reaches = λ g s i not low.
          let there : i < (end_of (plan_of program a.protocols) runs.first runs.dealing.deals g).cursors s = subst (λ (last : Hosts). i < (last g).cursors s) (ends_are runs.first runs.dealing.deals) low in
          let most : (end_of (plan_of program a.protocols) runs.first runs.dealing.deals g).cursors s ≤ counts_of runs.dealing.deals g s = takes g s not in
          is_there runs.first g (slice_get runs.dealing.deals g) s i not (omega (arith, there, most));
    }

    -- the other host sends the same in both runs
    same_talk : talk program a.protocols runs.first runs.dealing.deals (1 - h.0) h.0 ≡ talk program a.protocols runs.second stored (1 - h.0) h.0
    same_talk =
        ap (λ (last : Hosts). words_of ((last (1 - h.0)).sent h.0)) (ends_are runs.first runs.dealing.deals)
        ∙ ap (λ (packets : List (List ℕ)). words_of packets) ((x.excuse.explains.view h.0 (is_alone h.0)).told (1 - h.0))
        ∙ sym (ap (λ (last : Hosts). words_of ((last (1 - h.0)).sent h.0)) (ends_are runs.second stored))

  pub told : (h : HostId) → h.0 < 2 → (runs : Runs) → AreRead 2 runs → IsConsistent runs.dealing.deals → (stored : List Deal) → IsExcused program selected.labels a.protocols h runs.first runs.second runs.dealing.deals stored
      → (out name : List ℕ) → host_of program.hosts name ≡ Some h.0 → (answer : Answer) → answer ≡ excuse_answer program a.protocols h runs out stored → IsExcuseOf name program runs out answer.stores answer.printed
  told h low runs read consistent stored x out name named answer e =
      let line = ap (λ (a : Answer). a.printed) e in
      record {
        assignment = a;
        selected = selected;
        two = chosen_two;
        host = h;
        low = low;
        named = named;
        agree = x.agree;
        deals = stored;
        explain = x.excuse;
        files = ap (λ (a : Answer). a.stores) e;
        line = line;
        line_too = line ∙ ap (λ (words : List ℕ). talk_line program.hosts h words) (same_talk h runs read consistent stored x);
      }

-- the deals that were read are the deals of all hosts
pub are_deals : (runs : Runs) → AreRead 2 runs → AreDeals runs.dealing.deals
are_deals runs read =
    let few : length runs.dealing.deals ≤ most_hosts = let limit = read.few in let all = read.all in omega (arith, limit, all) in
    all_deals runs.dealing.deals few (subst (λ (n : ℕ). AreDealsOf n runs.dealing.deals) (sym read.all) read.deals)
