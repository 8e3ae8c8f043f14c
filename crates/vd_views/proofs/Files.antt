-- Deal files of two hosts that explain other inputs, and how many there are.
use Rattle.std.proofs.Common.{◌≡◌, ◌≢◌, ℕ, zero, suc, ◌<◌, ◌≤◌, List, [], ◌∷◌, Option, Some, None, length, map, refl, sym, ap, ap₂, subst, ◌∙◌, arith}
use Rattle.std.specs.Prelude.{slice_get}
use mathlib.Core.Path.{fun_ext}
use Rattle.vd_base.specs.declared.ids.HostId.{HostId}
use Rattle.vd_base.specs.declared.protocols.Proto.{Proto}
use Rattle.vd_core.specs.declared.normal.NormalForm.{NormalForm}
use Rattle.vd_constraints.specs.declared.labels.Labels.{Labels}
use Rattle.vd_tape.specs.declared.deal_items.deal.Deal.{Deal}
use Rattle.vd_tape.specs.Text.{IsDealOf}
use Rattle.vd_execution.specs.Registers.{nth}
use Rattle.vd_execution.specs.Step.{Source, Inputs, OwnWords, Triples, BitTriples, Pairs}
use Rattle.vd_execution.specs.World.{Tape, or_zeros, zeros_of}
use Rattle.vd_execution.specs.Joint.{fresh, joint}
use Rattle.vd_execution.specs.Gadgets.{Gadget}
use Rattle.vd_execution.specs.Plans.{Plan, joint_of, PlanIsTidy}
use Rattle.vd_machine.specs.Machines.{word_item, triple_item, pair_item, list_of}
use Rattle.vd_backend_laws.specs.Whole.{inputs_of}
use Rattle.vd_base.specs.Words.{InputsAreWords}
use Rattle.vd_world.specs.Supplies.{AreFiles, items_for}
use Rattle.vd_world.proofs.Front.{files_are_valid}
use Rattle.vd_noninter_protocols.specs.Told.{IsDealt}
use Rattle.vd_views.specs.Views.{LooksAlike, alone, everyone}
use Rattle.vd_views.specs.Contract.{moved_deal, Explains}
use Rattle.vd_views.specs.Excused.{excused}
use Rattle.vd_views.specs.Explained.{IsOfTwo, IsCoalition, plan_of, input_words, AgreeFor}
use Rattle.vd_views.specs.PairUp.{IsDealOf as IsDealWith}
use Rattle.vd_views.specs.Lengths.{Lengths, IsLongEnough, OwnFits, Shows, AreAll}
use Rattle.vd_views.proofs.Coalitions.{is_alone, of_alone}
use Rattle.vd_views.proofs.Strangers.{all_within, seen_item}
use Rattle.vd_views.proofs.Theorem.{free_opens, others_are_explained, one_of_two_looks, plan_is_tidy, choose_branches}
use Rattle.vd_views.proofs.Places.{all_sight}
use Rattle.vd_views.proofs.ViewsBackendsPlans.{plan_owns}
use Rattle.vd_views.specs.Sides.{OwnsInSight}
use Rattle.vd_views.proofs.Lengths.{excuses_are_as_long, own_fits, show_equally_many}
use Rattle.vd_machine.specs.Dealt.{dealt_count, counts_of}
use Rattle.vd_views.specs.Files.{tape_of, AreEnough, AreAsLong, IsExcuse, FilesAreExplained, ShowsTheSame, FilesShowEquallyMany}
use Rattle.vd_views.proofs.Lists.{word_of, triple_of, pair_of, read_count, past_end, input_is}
use Rattle.vd_views.proofs.Hosts.{first_host, second_host, kind_count, Part, file, are_two_files, IsAsLong, read_files, read_part, first_back, second_back, tape_again, are_files}
use Rattle.vd_views.proofs.Counted.{mapped_count, all_there}

one_item : (xs : List ℕ) (v : ℕ) → length xs ≡ 1 → nth xs 0 ≡ v → xs ≡ v ∷ []
one_item [] v e f = absurd (omega (arith, e))
one_item (x ∷ []) v e f = ap (λ z. z ∷ []) f
one_item (x ∷ y ∷ xs) v e f = absurd (omega (arith, e))

is_dealt : (inputs : List (List ℕ)) (deals : List Deal) → AreFiles inputs deals → IsDealt inputs (tape_of inputs deals)
is_dealt inputs deals files = let v = files_are_valid inputs deals files in record { words = files.words; deal = v.0; given = v.1 }

is_deal : (inputs : List (List ℕ)) (deals : List Deal) → AreFiles inputs deals → IsDealWith (input_words inputs) (tape_of inputs deals)
is_deal inputs deals files =
    let v = files_are_valid inputs deals files in
    record { deal = v.0; inputs = λ g i. one_item (tape_of inputs deals g Inputs i) (input_words inputs g i) (v.0.lengths g Inputs i) (v.1 g i) }

-- past the end of its lists a file has zeros
items_past : (inputs : List (List ℕ)) (g : ℕ) (o : Option Deal) (s : Source) (i : ℕ) → s ≢ Inputs → dealt_count o s ≤ i → or_zeros s (items_for inputs g o s i) ≡ zeros_of s
items_past inputs g None s i not le = refl
items_past inputs g (Some d) Inputs i not le = absurd (not refl)
items_past inputs g (Some d) OwnWords i not le = past_end OwnWords word_item d.own i le
items_past inputs g (Some d) (Triples p) i not le = past_end (Triples p) triple_item (list_of d.triples d.me.0 p) i le
items_past inputs g (Some d) (BitTriples p) i not le = past_end (BitTriples p) triple_item (list_of d.bits d.me.0 p) i le
items_past inputs g (Some d) (Pairs p) i not le = past_end (Pairs p) pair_item (list_of d.pairs d.me.0 p) i le

-- with the same inputs and the same deal a host has the same items
same_items : (h : ℕ) (a b : List (List ℕ)) → ((i : ℕ) → input_words a h i ≡ input_words b h i) → (o : Option Deal) (s : Source) (i : ℕ)
    → or_zeros s (items_for a h o s i) ≡ or_zeros s (items_for b h o s i)
same_items h a b same None s i = refl
same_items h a b same (Some d) Inputs i = input_is (inputs_of a h) i ∙ ap (λ (v : ℕ). v ∷ []) (same i) ∙ sym (input_is (inputs_of b h) i)
same_items h a b same (Some d) OwnWords i = refl
same_items h a b same (Some d) (Triples p) i = refl
same_items h a b same (Some d) (BitTriples p) i = refl
same_items h a b same (Some d) (Pairs p) i = refl

long_enough : (h : ℕ) (plan : Plan Gadget) (deals : List Deal) (inputs : List (List ℕ)) (stored : List Deal) → AreEnough plan inputs stored → AreAsLong deals stored
    → IsLongEnough (alone h) (counts_of deals) plan (tape_of inputs stored)
long_enough h plan deals inputs stored enough long = record {
  ends = λ g s i not le. items_past inputs g (slice_get stored g) s i not (subst (λ n. n ≤ i) (sym (long g s)) le);
  takes = λ g s seen. subst (λ n. (joint (tape_of inputs stored) (joint_of plan) fresh g).cursors s ≤ n) (long g s) (enough.takes g s (seen_item h g s seen));
}

module _ (p : NormalForm) (l : Labels) (protocols : List Proto) (of_two : IsOfTwo p l protocols) (h : HostId) (low : h.0 < 2) (first : List (List ℕ)) (x w : Part)
    (enough : AreEnough (plan_of p protocols) first (file 0 x ∷ file 1 w ∷ [])) where
  abbrev plan : Plan Gadget
  plan = plan_of p protocols

  abbrev deals : List Deal
  deals = file 0 x ∷ file 1 w ∷ []

  abbrev n : Lengths
  n = counts_of (file 0 x ∷ file 1 w ∷ [])

  abbrev t : Tape
  t = tape_of first (file 0 x ∷ file 1 w ∷ [])

  one : IsDealOf 2 0 (file 0 x)
  one = enough.files.dealt 0 (file 0 x) refl

  two : IsDealOf 2 1 (file 1 w)
  two = enough.files.dealt 1 (file 1 w) refl

  counts_kept : (z : Tape) → AreAsLong (file 0 x ∷ file 1 w ∷ []) (read_files x w z)
  counts_kept z zero Inputs = refl
  counts_kept z zero OwnWords = read_count word_of (z 0 OwnWords) (length x.own)
  counts_kept z zero (Triples q) = kind_count triple_of 0 1 first_host x.triples (z 0 (Triples 1)) q
  counts_kept z zero (BitTriples q) = kind_count triple_of 0 1 first_host x.bits (z 0 (BitTriples 1)) q
  counts_kept z zero (Pairs q) = kind_count pair_of 0 1 first_host x.pairs (z 0 (Pairs 1)) q
  counts_kept z (suc zero) Inputs = refl
  counts_kept z (suc zero) OwnWords = read_count word_of (z 1 OwnWords) (length w.own)
  counts_kept z (suc zero) (Triples q) = kind_count triple_of 1 0 second_host w.triples (z 1 (Triples 0)) q
  counts_kept z (suc zero) (BitTriples q) = kind_count triple_of 1 0 second_host w.bits (z 1 (BitTriples 0)) q
  counts_kept z (suc zero) (Pairs q) = kind_count pair_of 1 0 second_host w.pairs (z 1 (Pairs 0)) q
  counts_kept z (suc (suc g)) s = refl

  as_itself : (v : Part) → IsAsLong v v
  as_itself v = record { own = refl; triples = refl; bits = refl; pairs = refl }

  file_kept : (k : ℕ) → k < 2 → (z : Tape) → z k ≡ tape_of first (file 0 x ∷ file 1 w ∷ []) k → slice_get (read_files x w z) k ≡ slice_get (file 0 x ∷ file 1 w ∷ []) k
  file_kept zero lt z e = ap (λ (f : Source → ℕ → List ℕ). Some (file 0 (read_part f 1 x))) e ∙ ap (λ (v : Part). Some (file 0 v)) (first_back first x x w (as_itself x))
  file_kept (suc zero) lt z e = ap (λ (f : Source → ℕ → List ℕ). Some (file 1 (read_part f 0 w))) e ∙ ap (λ (v : Part). Some (file 1 v)) (second_back first w x w (as_itself w))
  file_kept (suc (suc k)) lt z e = absurd (omega (arith, lt))

  -- ---- from a deal to files

  module _ (given : List (List ℕ)) (few : length given ≤ 2) (words : InputsAreWords given) (z : Tape) (deal : IsDealWith (input_words given) z) (long : IsLongEnough (alone h.0) (counts_of (file 0 x ∷ file 1 w ∷ [])) plan z) where
    again : tape_of given (read_files x w z) ≡ z
    again = tape_again x w z deal.deal given deal.inputs few (λ g s i not le. long.ends g s i not le)

    enough_again : AreEnough plan given (read_files x w z)
    enough_again = record {
      files = are_files x w z deal.deal given deal.inputs few (λ g s i not le. long.ends g s i not le) words one two;
      two = refl;
      takes = λ g s not.
          subst (λ c. (joint (tape_of given (read_files x w z)) (joint_of plan) fresh g).cursors s ≤ c) (sym (counts_kept z g s))
          (subst (λ (y : Tape). (joint y (joint_of plan) fresh g).cursors s ≤ counts_of (file 0 x ∷ file 1 w ∷ []) g s) (sym again) (all_within p l protocols of_two h.0 low (counts_of (file 0 x ∷ file 1 w ∷ [])) z long g s not));
    }

  -- ---- explained

  together : IsCoalition p (alone h.0)
  together = (one_of_two_looks p l protocols h.0 (free_opens p l protocols of_two.free (alone h.0)) of_two.hosts low).0

  tidy : PlanIsTidy (plan_of p protocols)
  tidy = plan_is_tidy p l protocols of_two.free.chosen

  -- all runs on one family of inputs take as many own words
  own_counts : (inputs : List (List ℕ)) (u y : Tape) → IsDealWith (input_words inputs) u → IsDealWith (input_words inputs) y → (g : ℕ) → (joint u (joint_of plan) fresh g).cursors OwnWords ≡ (joint y (joint_of plan) fresh g).cursors OwnWords
  own_counts inputs u y d e g = plan_owns everyone u y plan (all_sight plan tidy) tidy fresh fresh (choose_branches p l protocols of_two.free.chosen inputs u y d.deal d.inputs e.deal e.inputs) (λ k. refl) g

  sight : OwnsInSight (alone h.0) (plan_of p protocols)
  sight = (one_of_two_looks p l protocols h.0 (free_opens p l protocols of_two.free (alone h.0)) of_two.hosts low).1

  t_long : IsLongEnough (alone h.0) (counts_of (file 0 x ∷ file 1 w ∷ [])) plan (tape_of first (file 0 x ∷ file 1 w ∷ []))
  t_long = long_enough h.0 plan deals first deals enough (λ g s. refl)

  files_explained : (second : List (List ℕ)) → length second ≤ 2 → AgreeFor p l protocols (alone h.0) first second → (stored : List Deal) × IsExcuse h.0 plan first second (file 0 x ∷ file 1 w ∷ []) stored
  files_explained second few agree =
      let y : Tape = excused (alone h.0) t plan (moved_deal (alone h.0) plan t (input_words second)) fresh fresh in
      let e : Explains (alone h.0) plan t (input_words second) y = others_are_explained p l protocols (alone h.0) (free_opens p l protocols of_two.free (alone h.0)) together first second t (is_dealt first deals enough.files) agree in
      let long : IsLongEnough (alone h.0) n plan y = excuses_are_as_long p l protocols (alone h.0) (free_opens p l protocols of_two.free (alone h.0)) together (input_words second) t y (is_dealt first deals enough.files).deal e n t_long
      (own_fits p l protocols of_two.free.chosen (alone h.0) sight (input_words second) t y e n t_long) in
      let deal : IsDealWith (input_words second) y = record { deal = e.deal; inputs = e.inputs } in (
        read_files x w y,
        record {
          enough = enough_again second few agree.words y deal long;
          kept = file_kept h.0 low y (e.part h.0 (is_alone h.0));
          as_long = counts_kept y;
          explains = subst (λ (z : Tape). Explains (alone h.0) plan t (input_words second) z) (sym (again second few agree.words y deal long)) e;
        },
      )

  -- ---- counted

  module _ (given : List (List ℕ)) (few : length given ≤ 2) (words : InputsAreWords given) (own : (i : ℕ) → input_words given h.0 i ≡ input_words first h.0 i) where
    to_deal : (stored : List Deal) → ShowsTheSame h.0 plan first (file 0 x ∷ file 1 w ∷ []) given stored
        → Shows (alone h.0) plan (counts_of (file 0 x ∷ file 1 w ∷ [])) (tape_of first (file 0 x ∷ file 1 w ∷ [])) (input_words given) (tape_of given stored)
    to_deal stored s = record {
      deal = is_deal given stored s.enough.files;
      long = long_enough h.0 plan deals given stored s.enough s.as_long;
      sees = record {
        part = of_alone h.0 (λ g. tape_of given stored g ≡ tape_of first (file 0 x ∷ file 1 w ∷ []) g)
            (fun_ext (λ r. fun_ext (λ i. ap (λ (o : Option Deal). or_zeros r (items_for given h.0 o r i)) s.kept ∙ same_items h.0 given first own (slice_get deals h.0) r i)));
        view = of_alone h.0 (λ g. LooksAlike g (joint t (joint_of plan) fresh) (joint (tape_of given stored) (joint_of plan) fresh)) s.view;
      };
    }

    to_files : (z : Tape) → Shows (alone h.0) plan (counts_of (file 0 x ∷ file 1 w ∷ [])) (tape_of first (file 0 x ∷ file 1 w ∷ [])) (input_words given) z
        → ShowsTheSame h.0 plan first (file 0 x ∷ file 1 w ∷ []) given (read_files x w z)
    to_files z s = record {
      enough = enough_again given few words z s.deal s.long;
      kept = file_kept h.0 low z (s.sees.part h.0 (is_alone h.0));
      as_long = counts_kept z;
      view = subst (λ (y : Tape). LooksAlike h.0 (joint t (joint_of plan) fresh) (joint y (joint_of plan) fresh)) (sym (again given few words z s.deal s.long)) (s.sees.view h.0 (is_alone h.0));
    }

    files_again : (stored : List Deal) → ShowsTheSame h.0 plan first (file 0 x ∷ file 1 w ∷ []) given stored → read_files x w (tape_of given stored) ≡ stored
    files_again stored s =
        let parts = are_two_files stored s.enough.two s.enough.files.dealt in
        let v : Part = parts.0 in
        let u : Part = parts.1 in
        let Q : List Deal → Type 0 = λ d. AreAsLong (file 0 x ∷ file 1 w ∷ []) d in
        let long : AreAsLong (file 0 x ∷ file 1 w ∷ []) (file 0 v ∷ file 1 u ∷ []) = subst Q parts.2 s.as_long in
        let P : List Deal → Type 0 = λ d. read_files x w (tape_of given d) ≡ d in
        subst P (sym parts.2)
        (ap₂ (λ (a b : Part). file 0 a ∷ file 1 b ∷ [])
        (first_back given x v u (record { own = sym (long 0 OwnWords); triples = sym (long 0 (Triples 1)); bits = sym (long 0 (BitTriples 1)); pairs = sym (long 0 (Pairs 1)) }))
        (second_back given w v u (record { own = sym (long 1 OwnWords); triples = sym (long 1 (Triples 0)); bits = sym (long 1 (BitTriples 0)); pairs = sym (long 1 (Pairs 0)) })))

    deal_again : (z : Tape) → Shows (alone h.0) plan (counts_of (file 0 x ∷ file 1 w ∷ [])) (tape_of first (file 0 x ∷ file 1 w ∷ [])) (input_words given) z → tape_of given (read_files x w z) ≡ z
    deal_again z s = again given few words z s.deal s.long

  files_counted : (second : List (List ℕ)) → length first ≤ 2 → length second ≤ 2 → AgreeFor p l protocols (alone h.0) first second → AgreeFor p l protocols (alone h.0) second first
      → (all : List (List Deal)) → AreAll (ShowsTheSame h.0 plan first (file 0 x ∷ file 1 w ∷ []) first) all
      → (others : List (List Deal)) × (length others ≡ length all) × AreAll (ShowsTheSame h.0 plan first (file 0 x ∷ file 1 w ∷ []) second) others
  files_counted second few more there here all all_first =
      let words : InputsAreWords first = enough.files.words in
      let same : (i : ℕ) → input_words first h.0 i ≡ input_words first h.0 i = λ i. refl in
      let tapes = all_there (ShowsTheSame h.0 plan first deals first) (Shows (alone h.0) plan n t (input_words first)) (tape_of first) (read_files x w)
      (to_deal first few words same) (to_files first few words same) (files_again first few words same) (deal_again first few words same) all all_first in
      let y : Tape = excused (alone h.0) t plan (moved_deal (alone h.0) plan t (input_words second)) fresh fresh in
      let e : Explains (alone h.0) plan t (input_words second) y = others_are_explained p l protocols (alone h.0) (free_opens p l protocols of_two.free (alone h.0)) together first second t (is_dealt first deals enough.files) there in
      let fits : OwnFits n plan (input_words first) = λ u d g. subst (λ c. c ≤ n g OwnWords) (own_counts first t u (is_deal first deals enough.files) d g) (t_long.takes g OwnWords tt) in
      let fits_too : OwnFits n plan (input_words second) = λ u d g.
      subst (λ c. c ≤ n g OwnWords) (own_counts second y u (record { deal = e.deal; inputs = e.inputs }) d g) (own_fits p l protocols of_two.free.chosen (alone h.0) sight (input_words second) t y e n t_long g) in
      let many = show_equally_many p l protocols (alone h.0) (free_opens p l protocols of_two.free (alone h.0)) together first second there here n fits fits_too t (map (tape_of first) all) tapes in
      let back : (i : ℕ) → input_words second h.0 i ≡ input_words first h.0 i = λ i. sym (there.own h.0 (is_alone h.0) i) in (
        map (read_files x w) many.0,
        mapped_count (read_files x w) many.0 ∙ many.1 ∙ mapped_count (tape_of first) all,
        all_there (Shows (alone h.0) plan n t (input_words second)) (ShowsTheSame h.0 plan first deals second) (read_files x w) (tape_of second)
            (to_files second more there.words back) (to_deal second more there.words back) (deal_again second more there.words back) (files_again second more there.words back) many.0 many.2,
      )

pub files_are_explained : FilesAreExplained
files_are_explained p l protocols of_two h low first second few agree deals enough =
    let parts = are_two_files deals enough.two enough.files.dealt in
    let P : List Deal → Type 0 = λ d. AreEnough (plan_of p protocols) first d → (stored : List Deal) × IsExcuse h.0 (plan_of p protocols) first second d stored in
    subst P (sym parts.2) (λ e. files_explained p l protocols of_two h low first parts.0 parts.1 e second few agree) enough

pub files_show_equally_many : FilesShowEquallyMany
files_show_equally_many p l protocols of_two h low first second few more there here deals enough all all_first =
    let parts = are_two_files deals enough.two enough.files.dealt in
    let P : List Deal → Type 0 = λ d. AreEnough (plan_of p protocols) first d → AreAll (ShowsTheSame h.0 (plan_of p protocols) first d first) all
    → (others : List (List Deal)) × (length others ≡ length all) × AreAll (ShowsTheSame h.0 (plan_of p protocols) first d second) others in
    subst P (sym parts.2) (λ e a. files_counted p l protocols of_two h low first parts.0 parts.1 e second few more there here all a) enough all_first
