-- Files of the second deal explain the second inputs.
use Rattle.std.proofs.Common.{◌≡◌, ◌≢◌, ℕ, zero, suc, ◌<◌, ◌≤◌, List, [], ◌∷◌, Option, Some, None, length, refl, sym, ap, ap₂, subst, ◌∙◌, arith}
use Rattle.std.specs.Prelude.{slice_get}
use Rattle.vd_base.specs.declared.ids.HostId.{HostId}
use Rattle.vd_base.specs.declared.protocols.Proto.{Proto}
use Rattle.vd_tape.specs.declared.deal_items.items.Triple.{Triple}
use Rattle.vd_tape.specs.declared.deal_items.items.PairItem.{PairItem}
use Rattle.vd_core.specs.declared.normal.NormalForm.{NormalForm}
use Rattle.vd_constraints.specs.declared.labels.Labels.{Labels}
use Rattle.vd_tape.specs.declared.deal_items.deal.Deal.{Deal}
use Rattle.vd_execution.specs.Step.{Source, Inputs, OwnWords, Triples, BitTriples, Pairs}
use Rattle.vd_execution.specs.World.{Tape, or_zeros, zeros_of}
use Rattle.vd_execution.specs.Joint.{fresh, joint}
use Rattle.vd_execution.specs.Plans.{joint_of}
use Rattle.vd_machine.specs.Machines.{word_item, triple_item, pair_item, list_of}
use Rattle.vd_world.specs.Supplies.{AreFiles, items_for}
use Rattle.vd_world.proofs.Front.{files_are_valid}
use Rattle.vd_noninter_protocols.specs.Told.{IsDealt}
use Rattle.vd_views.specs.Contract.{with_inputs, Explains}
use Rattle.vd_views.specs.Excused.{excused}
use Rattle.vd_excuse_walk.specs.declared.equivocation_laws.step.Step.{Step}
use Rattle.vd_excuse_walk.specs.Walks.{Both}
use Rattle.vd_excuse_walk.specs.EquivocationLawsClaims.{explained_end}
use Rattle.vd_views.specs.Explained.{IsOfTwo, plan_of, input_words, AgreeFor}
use Rattle.vd_views.specs.Lengths.{IsLongEnough}
use Rattle.vd_views.specs.Views.{alone}
use Rattle.vd_views.specs.Explained.{IsCoalition}
use Rattle.vd_views.specs.Sides.{OwnsInSight}
use Rattle.vd_views.proofs.Front.{free_opens, is_alone, one_of_two_looks, others_are_explained, deal_stays, own_fits, excuses_are_as_long, all_within, seen_item}
use Rattle.vd_machine.specs.Dealt.{dealt_count, counts_of}
use Rattle.vd_views.specs.Files.{tape_of, AreEnough, AreAsLong, IsExcuse}
use Rattle.vd_views.proofs.Front.{past_end, Part, file, are_two_files, IsAsLong, read_files, read_part, first_back, second_back, are_files}
use Rattle.vd_excuse.specs.Claims.{LeadTo}
use Rattle.vd_excuse.specs.Excuses.{both_at_start, both_after, ReachesToo, EndsToo, IsOneOfTwo, AreExcused, ExcusedFilesExplain, excuse_files, ExcusedFilesAreThese}

is_dealt : (inputs : List (List ℕ)) (deals : List Deal) → AreFiles inputs deals → IsDealt inputs (tape_of inputs deals)
is_dealt inputs deals files = let v = files_are_valid inputs deals files in record { words = files.words; deal = v.0; given = v.1 }

-- past the end of its lists a file has zeros
items_past : (inputs : List (List ℕ)) (g : ℕ) (o : Option Deal) (s : Source) (i : ℕ) → s ≢ Inputs → dealt_count o s ≤ i → or_zeros s (items_for inputs g o s i) ≡ zeros_of s
items_past inputs g None s i not le = refl
items_past inputs g (Some d) Inputs i not le = absurd (not refl)
items_past inputs g (Some d) OwnWords i not le = past_end OwnWords word_item d.own i le
items_past inputs g (Some d) (Triples p) i not le = past_end (Triples p) triple_item (list_of d.triples d.me.0 p) i le
items_past inputs g (Some d) (BitTriples p) i not le = past_end (BitTriples p) triple_item (list_of d.bits d.me.0 p) i le
items_past inputs g (Some d) (Pairs p) i not le = past_end (Pairs p) pair_item (list_of d.pairs d.me.0 p) i le

-- ---- files of two hosts by their lists

only_one : {X : Type 0} (xs : List X) → length xs ≡ 1 → (x : X) × (xs ≡ x ∷ [])
only_one [] e = absurd (omega (arith, e))
only_one (x ∷ []) e = (x, refl)
only_one (x ∷ y ∷ xs) e = absurd (omega (arith, e))

is_file : (me : ℕ) (d : Deal) → IsOneOfTwo me d → (x : Part) × (d ≡ file me x)
is_file me d of =
    let t = only_one d.triples of.triples in
    let b = only_one d.bits of.bits in
    let p = only_one d.pairs of.pairs in
    let build : ℕ → HostId → List (List Triple) → List (List Triple) → List (List PairItem) → Deal = λ n h ts bs ps.
    record { hosts = n; me = h; own = d.own; triples = ts; bits = bs; pairs = ps } in
    let number : d.me ≡ record { 0 = me } = ap (λ (n : ℕ). let h : HostId = record { 0 = n } in h) of.number in (
      record { own = d.own; triples = t.0; bits = b.0; pairs = p.0 },
      ap (λ n. build n d.me d.triples d.bits d.pairs) of.hosts ∙ ap (λ h. build 2 h d.triples d.bits d.pairs) number
          ∙ ap (λ ts. build 2 (record { 0 = me }) ts d.bits d.pairs) t.1 ∙ ap (λ bs. build 2 (record { 0 = me }) (t.0 ∷ []) bs d.pairs) b.1
          ∙ ap (λ ps. build 2 (record { 0 = me }) (t.0 ∷ []) (b.0 ∷ []) ps) p.1,
    )

two_of : (stored : List Deal) → length stored ≡ 2 → ((g : ℕ) (d : Deal) → slice_get stored g ≡ Some d → IsOneOfTwo g d) → (x : Part) × (y : Part) × (stored ≡ file 0 x ∷ file 1 y ∷ [])
two_of [] e of = absurd (omega (arith, e))
two_of (c ∷ []) e of = absurd (omega (arith, e))
two_of (c ∷ d ∷ []) e of =
    let one = is_file 0 c (of 0 c refl) in
    let two = is_file 1 d (of 1 d refl) in
    (one.0, two.0, ap (λ (z : Deal). z ∷ d ∷ []) one.1 ∙ ap (λ (z : Deal). file 0 one.0 ∷ z ∷ []) two.1)
two_of (c ∷ d ∷ b ∷ deals) e of = absurd (omega (arith, e))

as_itself : (v : Part) → IsAsLong v v
as_itself v = record { own = refl; triples = refl; bits = refl; pairs = refl }

module _ (x w v u : Part) (long : AreAsLong (file 0 x ∷ file 1 w ∷ []) (file 0 v ∷ file 1 u ∷ [])) where
  first_long : IsAsLong x v
  first_long = record { own = sym (long 0 OwnWords); triples = sym (long 0 (Triples 1)); bits = sym (long 0 (BitTriples 1)); pairs = sym (long 0 (Pairs 1)) }

  second_long : IsAsLong w u
  second_long = record { own = sym (long 1 OwnWords); triples = sym (long 1 (Triples 0)); bits = sym (long 1 (BitTriples 0)); pairs = sym (long 1 (Pairs 0)) }

  -- files are what is read off their own lists
  files_back : (given : List (List ℕ)) → read_files x w (tape_of given (file 0 v ∷ file 1 u ∷ [])) ≡ file 0 v ∷ file 1 u ∷ []
  files_back given = ap₂ (λ (a b : Part). file 0 a ∷ file 1 b ∷ []) (first_back given x v u first_long) (second_back given w v u second_long)

  -- a host's file is known by its items
  same_file : (first second : List (List ℕ)) (h : ℕ) → h < 2 → tape_of second (file 0 v ∷ file 1 u ∷ []) h ≡ tape_of first (file 0 x ∷ file 1 w ∷ []) h
      → slice_get (file 0 v ∷ file 1 u ∷ []) h ≡ slice_get (file 0 x ∷ file 1 w ∷ []) h
  same_file first second zero low e =
      ap (λ (z : Part). Some (file 0 z))
      (sym (first_back second x v u first_long) ∙ ap (λ (f : Source → ℕ → List ℕ). read_part f 1 x) e ∙ first_back first x x w (as_itself x))
  same_file first second (suc zero) low e =
      ap (λ (z : Part). Some (file 1 z))
      (sym (second_back second w v u second_long) ∙ ap (λ (f : Source → ℕ → List ℕ). read_part f 0 w) e ∙ second_back first w x w (as_itself w))
  same_file first second (suc (suc h)) low e = absurd (omega (arith, low))

-- ---- the second deal

module _ (p : NormalForm) (l : Labels) (protocols : List Proto) (of_two : IsOfTwo p l protocols) (h : HostId) (low : h.0 < 2) (first second : List (List ℕ)) (agree : AgreeFor p l protocols (alone h.0) first second) (steps : List Step)
    (lead : LeadTo steps (plan_of p protocols)) where
  module _ (x w v u : Part) (enough : AreEnough (plan_of p protocols) first (file 0 x ∷ file 1 w ∷ [])) (stored : AreExcused h.0 steps first second (file 0 x ∷ file 1 w ∷ []) (file 0 v ∷ file 1 u ∷ [])) where
    abbrev t : Tape
    t = tape_of first (file 0 x ∷ file 1 w ∷ [])

    abbrev y : Tape
    y = excused (alone h.0) t (plan_of p protocols) (with_inputs t (input_words second)) fresh fresh

    together : IsCoalition p (alone h.0)
    together = (one_of_two_looks p l protocols h.0 (free_opens p l protocols of_two.free (alone h.0)) of_two.hosts low).0

    sight : OwnsInSight (alone h.0) (plan_of p protocols)
    sight = (one_of_two_looks p l protocols h.0 (free_opens p l protocols of_two.free (alone h.0)) of_two.hosts low).1

    explained : Explains (alone h.0) (plan_of p protocols) t (input_words second) y
    explained =
        let dealt = is_dealt first (file 0 x ∷ file 1 w ∷ []) enough.files in
        subst (λ (u : Tape). Explains (alone h.0) (plan_of p protocols) t (input_words second) (excused (alone h.0) t (plan_of p protocols) u fresh fresh))
        (deal_stays p l protocols (alone h.0) (free_opens p l protocols of_two.free (alone h.0)) together sight first second t dealt agree) (others_are_explained p l protocols (alone h.0) (free_opens p l protocols of_two.free (alone h.0)) together first second t dealt agree)

    t_long : IsLongEnough (alone h.0) (counts_of (file 0 x ∷ file 1 w ∷ [])) (plan_of p protocols) t
    t_long = record { ends = λ g s i not le. items_past first g (slice_get (file 0 x ∷ file 1 w ∷ []) g) s i not le; takes = λ g s seen. enough.takes g s (seen_item h.0 g s seen) }

    long : IsLongEnough (alone h.0) (counts_of (file 0 x ∷ file 1 w ∷ [])) (plan_of p protocols) y
    long =
        excuses_are_as_long p l protocols (alone h.0) (free_opens p l protocols of_two.free (alone h.0)) together (input_words second) t y (is_dealt first (file 0 x ∷ file 1 w ∷ []) enough.files).deal explained (counts_of (file 0 x ∷ file 1 w ∷ []))
        t_long (own_fits p l protocols of_two.free.chosen (alone h.0) sight (input_words second) t y explained (counts_of (file 0 x ∷ file 1 w ∷ [])) t_long)

    reaches : (g : ℕ) (s : Source) → s ≢ Inputs → (joint y (joint_of (plan_of p protocols)) fresh g).cursors s ≤ counts_of (file 0 x ∷ file 1 w ∷ []) g s
    reaches = all_within p l protocols of_two h.0 low (counts_of (file 0 x ∷ file 1 w ∷ [])) y long

    walked : both_after h.0 steps first second (file 0 x ∷ file 1 w ∷ []) ≡ explained_end (alone h.0) t (plan_of p protocols) (both_at_start t second)
    walked = lead (alone h.0) t (both_at_start t second)

    same : tape_of second (file 0 v ∷ file 1 u ∷ []) ≡ y
    same =
        stored.same (subst (λ (b : Both). ReachesToo (file 0 x ∷ file 1 w ∷ []) b) (sym walked) reaches)
        (subst (λ (b : Both). EndsToo (file 0 x ∷ file 1 w ∷ []) b) (sym walked) long.ends) ∙ ap (λ (b : Both). b.deal) walked

    explains : Explains (alone h.0) (plan_of p protocols) t (input_words second) (tape_of second (file 0 v ∷ file 1 u ∷ []))
    explains = subst (λ (d : Tape). Explains (alone h.0) (plan_of p protocols) t (input_words second) d) (sym same) explained

    files : length second ≤ 2 → AreFiles second (file 0 v ∷ file 1 u ∷ [])
    files few =
        subst (λ (d : List Deal). AreFiles second d) (ap (λ (z : Tape). read_files x w z) (sym same) ∙ files_back x w v u stored.as_long second)
        (are_files x w y explained.deal second explained.inputs few (λ g s i not le. long.ends g s i not le) agree.words (enough.files.dealt 0 (file 0 x) refl) (enough.files.dealt 1 (file 1 w) refl))

    two_explain : length second ≤ 2 → IsExcuse h.0 (plan_of p protocols) first second (file 0 x ∷ file 1 w ∷ []) (file 0 v ∷ file 1 u ∷ [])
    two_explain few = record {
      enough = record {
        files = files few;
        two = refl;
        takes = λ g s not. subst (λ (n : ℕ). (joint (tape_of second (file 0 v ∷ file 1 u ∷ [])) (joint_of (plan_of p protocols)) fresh g).cursors s ≤ n) (sym (stored.as_long g s))
            (subst (λ (d : Tape). (joint d (joint_of (plan_of p protocols)) fresh g).cursors s ≤ counts_of (file 0 x ∷ file 1 w ∷ []) g s) (sym same) (reaches g s not));
      };
      kept = same_file x w v u stored.as_long first second h.0 low (explains.part h.0 (is_alone h.0));
      as_long = stored.as_long;
      explains = explains;
    }

    two_are_these : file 0 v ∷ file 1 u ∷ [] ≡ excuse_files h.0 (plan_of p protocols) first second (file 0 x ∷ file 1 w ∷ [])
    two_are_these = sym (files_back x w v u stored.as_long second) ∙ ap (λ (z : Tape). read_files x w z) same

  abbrev Gives : (List Deal → List Deal → Type 0) → List Deal → List Deal → Type 0
  Gives P deals stored = AreEnough (plan_of p protocols) first deals → AreExcused h.0 steps first second deals stored → P deals stored

  -- so of all files
  of_files : (P : List Deal → List Deal → Type 0) → ((x w v u : Part) → Gives P (file 0 x ∷ file 1 w ∷ []) (file 0 v ∷ file 1 u ∷ [])) → (deals stored : List Deal) → Gives P deals stored
  of_files P each deals stored enough walked =
      let one = are_two_files deals enough.two enough.files.dealt in
      let other = two_of stored walked.two walked.each in
      let both : Gives P (file 0 one.0 ∷ file 1 one.1 ∷ []) (file 0 other.0 ∷ file 1 other.1 ∷ []) = each one.0 one.1 other.0 other.1 in
      let forth : Gives P deals (file 0 other.0 ∷ file 1 other.1 ∷ []) = subst (λ (d : List Deal). Gives P d (file 0 other.0 ∷ file 1 other.1 ∷ [])) (sym one.2) both in
      let all : Gives P deals stored = subst (λ (d : List Deal). Gives P deals d) (sym other.2) forth in
      all enough walked

pub excused_files_explain : ExcusedFilesExplain
excused_files_explain p l protocols of_two h low first second few agree deals stored enough steps lead walked =
    of_files p l protocols of_two h low first second agree steps lead (λ (c d : List Deal). IsExcuse h.0 (plan_of p protocols) first second c d)
    (λ x w v u e s. two_explain p l protocols of_two h low first second agree steps lead x w v u e s few) deals stored enough walked

pub excused_files_are_these : ExcusedFilesAreThese
excused_files_are_these p l protocols of_two h low first second agree deals stored enough steps lead walked =
    of_files p l protocols of_two h low first second agree steps lead (λ (c d : List Deal). d ≡ excuse_files h.0 (plan_of p protocols) first second c)
    (λ x w v u e s. two_are_these p l protocols of_two h low first second agree steps lead x w v u e s) deals stored enough walked
