-- Statements on arrays keep the slots in trust right.
use Rattle.std.proofs.Common.{◌≡◌, ℕ, ◌+◌, ◌^◌, ◌<◌, ◌&&◌, true, false, List, [], ◌∷◌, ◌++◌, length, replicate, slice_index, slice_set, refl, sym, subst, ◌∙◌, arith, length-set}
use Rattle.std.proofs.lemmas.Bool.{and_parts}
use Rattle.vd_base.specs.declared.ids.HostId.{HostId}
use Rattle.vd_base.specs.declared.ids.SlotId.{SlotId}
use Rattle.vd_base.specs.declared.protocols.Proto.{Proto}
use Rattle.vd_base.specs.declared.protocols.Proto.TheVariants.{Local}
use Rattle.vd_base.specs.declared.rows.Row.TheVariants.{Variable as VariableRow}
use Rattle.vd_base.specs.HostSets.{host}
use Rattle.vd_base.specs.Holders.{holders, is_holder}
use Rattle.vd_core.specs.declared.normal.Right.TheVariants.{Get}
use Rattle.vd_core.specs.declared.normal.Stmt.TheOpen.{Stmt-F}
use Rattle.vd_core.specs.Facts.{Sight}
use Rattle.vd_semantics.specs.ProgramMeaning.{SlotState, word_at, array_at, with_word, with_array}
use Rattle.vd_execution.specs.Gadgets.{Gadget}
use Rattle.vd_execution.specs.Joint.{Hosts, Part}
use Rattle.vd_execution.specs.World.{Tape}
use Rattle.vd_execution.specs.Deals.{IsValidDeal}
use Rattle.vd_duet.specs.Laws.{AreKnown, IsHost}
use Rattle.vd_split.specs.Joint.{Each as EachOf}
use Rattle.vd_split.specs.Suite.{Cells, Made, Below, Laws, holders_among}
use Rattle.vd_split.specs.Emission.{Emitting, delivered}
use Rattle.vd_split.specs.Validity.{Reaches}
use Rattle.vd_split.proofs.Front.{Binding, Array, Sees, with_use, item_put, other_array, other_word, tied_past, Reached, picked_join, ready_past, index_reached, moved, operand_of}
use Rattle.vd_backend_laws.specs.Machine.{machine}
use Rattle.vd_backend_laws.specs.Parts.{Parts, suite_calls, index_of}
use Rattle.vd_backend_laws.specs.Suite.{IsOver, Names, cell, suite, AreGiven}
use Rattle.vd_backend_laws.proofs.Front.{index_at, In, holder_at, holders_apart, host_known, picked_in}
use Rattle.vd_noninter.specs.Flowing.{Knowledge, only_with}
use Rattle.vd_noninter.proofs.Front.{only}
use Rattle.vd_integrity_runs.specs.Departing.{AreRight, RunsGadgets}
use Rattle.vd_integrity_runs.specs.Copies.{IsInClear}
use Rattle.vd_integrity_runs.specs.Endorsed.{Doing, bound, given_step}
use Rattle.vd_integrity_runs.proofs.Touching.{IsFramed, runs_framed}
use Rattle.vd_integrity_runs.proofs.Fresh.{Free, IsFresh, cells_fresh, get_fresh, moved_fresh}
use Rattle.vd_integrity_runs.proofs.Calls.{IsKeptAt, moved_right, operand_later, still_of}
use Rattle.vd_integrity_runs.proofs.Relation.{Ties, IsRightIn, content_stays, operand, part_of, placed, quiet_outer, trust_more, trust_written}
use Rattle.vd_integrity_runs.proofs.Rights.{from_gives, known_at, laws}
use Rattle.vd_integrity_runs.proofs.Statements.{Leads, Right'}
use Rattle.vd_integrity_runs.proofs.Guards.{delivered_fresh, delivered_right, given_hosts}
use Rattle.vd_integrity_runs.proofs.Arrays.{get_right, index_right, put_right, put_touches, small_set, zeros_index, zeros_many, zeros_right}

module _ (hosts : ℕ) (t : Tape) (deal : IsValidDeal t) (inputs : ℕ → List ℕ) (dealt : AreGiven inputs t) (proto : ℕ → Proto) (clear : (x : ℕ) → IsInClear (proto x)) (declared : (x : ℕ) → IsOver hosts (proto x))
    (k : Knowledge) (declassified : (x y : ℕ) → k.given.declassified x y ≡ false) (stays : (x : ℕ) → k.kept x ≡ true → IsKeptAt k.known (proto x)) (heard : (h : ℕ) → k.known h ≡ true → k.heard h ≡ true) where
  abbrev Em : Type 0
  Em = Emitting (suite_calls hosts) proto

  abbrev theory : Laws (machine t inputs) (suite t inputs hosts)
  theory = laws hosts t deal inputs dealt proto clear declared

  abbrev Goes : Sight → Sight → List ℕ → List Parts → List Parts → Doing → ℕ → Hosts → Hosts → SlotState → Type 0
  Goes o o' next held held' does turn w u c = Leads hosts t deal inputs dealt proto clear declared k declassified stays heard o o' next held held' does turn w u c

  module _ (o : Sight) (e : Em) (w0 : Hosts) (c0 : SlotState) (ties : Ties hosts t inputs proto clear o e.next e.held w0 c0) (turn : ℕ) (w : Hosts) (c : SlotState) (trust : Right' hosts t deal inputs dealt proto clear declared k declassified stays heard o e.held w c) where
    -- ---- a new array
    pub array_leads : (v : SlotId) (size : ℕ) → v.0 ≡ length e.held → (u : Hosts) → RunsGadgets k.known t ((suite_calls hosts).cells (proto v.0) size e.next).acts w u
        → Goes o (with_use Array v.0 o) e.next e.held (e.held ++ ((suite_calls hosts).cells (proto v.0) size e.next).given ∷ []) (given_step k.given.endorsed (Stmt-F.NewArray v size)) turn w u c
    array_leads v size is u run =
        let made = (suite_calls hosts).cells (proto v.0) size e.next in
        let known = known_at hosts t deal inputs dealt proto clear declared (proto v.0) (declared v.0) e.next ties.ready.known in
        let fresh = cells_fresh (proto v.0) (clear v.0) e.next known size in
        let framed = runs_framed (Free e.next) k.known t made.acts w u fresh.touches run in
        let zeros : List ℕ = replicate size 0 in
        record {
          words = [];
          after = with_array v (replicate size 0) c;
          runs = λ more. refl;
          trust = trust_more hosts t inputs proto clear k.known k.kept o e.next e.held w0 c0 ties w u c (with_array v (replicate size 0) c) Array v.0 made.given is (still_of e.next w u framed)
              (quiet_outer hosts t inputs proto clear k.known k.kept (Free e.next) w u c.world framed trust.outer)
              (λ there. subst (λ z. IsRightIn k.known u made.given (Cells z)) (sym (item_put [] c.arrays v.0 (replicate size 0)))
              (zeros_many size, λ i low. subst (λ z. AreRight k.known u (cell i made.given.at) z) (sym (zeros_index size i)) (zeros_right k.known t size (holders (proto v.0)) e.next w u known run i low)))
              (λ there i. subst (λ (z : List ℕ). slice_index z i < 2 ^ 32) (sym (item_put [] c.arrays v.0 (replicate size 0))) (subst (λ z. z < 2 ^ 32) (sym (zeros_index size i)) (omega arith)))
              (other_array v (replicate size 0) c) trust;
          kept = λ h r low n. still_of e.next w u framed h r low;
        }

    -- ---- an index is told to the hosts of an array
    module _ (v i : SlotId) (sees_i : Sees o Binding i.0) (sees_v : Sees o Array v.0) (reaches : Reaches _ (suite t inputs hosts) proto i (λ h. is_holder (proto v.0) (host h))) (m : Hosts)
        (run : RunsGadgets k.known t (delivered (suite_calls hosts) proto (proto i.0) (part_of hosts t inputs proto clear e.held i.0) (holders_among (suite_calls hosts) (proto v.0)) e.next).acts w m) where
      abbrev index : Made Gadget (List Part)
      index = delivered (suite_calls hosts) proto (proto i.0) (part_of hosts t inputs proto clear e.held i.0) (holders_among (suite_calls hosts) (proto v.0)) e.next

      within : {g : ℕ} → g < 0 + hosts → g < hosts
      within lt = omega arith

      joins : EachOf (λ g. (g.0 < hosts) × ((suite t inputs hosts).joins (proto i.0) (Local g) ≡ true)) (holders_among (suite_calls hosts) (proto v.0))
      joins = picked_join _ (suite t inputs hosts) theory proto (proto i.0) (λ h. is_holder (proto v.0) (host h)) 0 hosts (λ g lt is. reaches g (within lt) is) (omega arith)

      index_fresh : IsFresh e.next index.acts index.next
      index_fresh = delivered_fresh hosts t deal inputs dealt proto clear declared (proto i.0) (clear i.0) (part_of hosts t inputs proto clear e.held i.0) (holders_among (suite_calls hosts) (proto v.0)) joins e.next ties.ready.known

      index_framed : IsFramed (Free e.next) w m
      index_framed = runs_framed (Free e.next) k.known t index.acts w m index_fresh.touches run

      shadow : Reached (machine t inputs) (suite t inputs hosts) theory e.next w0 (holders_among (suite_calls hosts) (proto v.0)) index (word_at c0 i)
      shadow = index_reached (machine t inputs) (suite t inputs hosts) proto theory declared o e.next e.held w0 c0 ties v i sees_i reaches

      index_low : (h : ℕ) → IsHost (holders (proto v.0)) h → (index_of index.given h).0 < slice_index index.next h
      index_low h j = (index_at t deal inputs hosts (proto v.0) (declared v.0) index.next shadow.between.reached index.given (word_at c0 i) shadow.there h j).1

      index_there : k.kept i.0 ≡ true → (h : ℕ) → IsHost (holders (proto v.0)) h → k.known h ≡ true → (m h).registers (index_of index.given h).0 ≡ word_at c i
      index_there is h j keep =
          index_right k.known m (word_at c i) index.given h
          (subst (In h) (sym (given_hosts hosts t deal inputs dealt proto clear declared (proto i.0) (part_of hosts t inputs proto clear e.held i.0) (holders_among (suite_calls hosts) (proto v.0)) e.next))
          (picked_in (λ g. is_holder (proto v.0) (host g)) 0 hosts h (omega arith) (let lt = host_known hosts (holders (proto v.0)) h (declared v.0).known j in omega (arith, lt)) (holder_at (proto v.0) h j)))
          (delivered_right hosts t deal inputs dealt proto clear declared k declassified stays (proto i.0) (clear i.0) (declared i.0) (stays i.0 is) (part_of hosts t inputs proto clear e.held i.0) (word_at c0 i) (word_at c i) (holders_among (suite_calls hosts) (proto v.0)) joins e.next w0 ties.ready
          (operand_of _ (suite t inputs hosts) proto theory declared o e.next e.held w0 c0 ties i.0 sees_i) w m
          (operand hosts t inputs proto clear k.known k.kept o e.next e.held w0 c0 ties w c trust i.0 sees_i is) run) keep

      -- the array at that point
      abbrev array : Parts
      array = part_of hosts t inputs proto clear e.held v.0

      array_right : k.kept v.0 ≡ true → IsRightIn k.known m array (Cells (array_at c v))
      array_right is = content_stays k.known w m array (Cells (array_at c v)) tt (λ h r n. still_of e.next w m index_framed h r (ties.below Array v.0 sees_v h r n)) (trust.right Array v.0 sees_v is)

      array_below : (h r : ℕ) → Names array h r → r < slice_index index.next h
      array_below h r n = let lt = ties.below Array v.0 sees_v h r n in let le = index_fresh.longer h in omega (arith, lt, le)

      array_known : AreKnown (holders (proto v.0)) index.next
      array_known = known_at hosts t deal inputs dealt proto clear declared (proto v.0) (declared v.0) index.next (index_fresh.known ∙ ties.ready.known)

      -- the element is read, and moved on
      pub get_leads : (x : SlotId) → x.0 ≡ length e.held → (suite t inputs hosts).holds VariableRow (proto v.0) ≡ true → only_with (k.kept x.0) (k.kept v.0 && k.kept i.0) ≡ true
          → let got = (suite_calls hosts).get (proto v.0) array index.given index.next in
          let moved = (suite_calls hosts).move (proto v.0) (proto x.0) got.given got.next in
          (p u : Hosts) → RunsGadgets k.known t got.acts m p → RunsGadgets k.known t moved.acts p u
          → Goes o (with_use Binding x.0 o) e.next e.held (e.held ++ moved.given ∷ []) (bound k.given.endorsed x (Get v i)) turn w u c
      get_leads x is holds flows p u run1 run2 =
          let got = (suite_calls hosts).get (proto v.0) array index.given index.next in
          let moved = (suite_calls hosts).move (proto v.0) (proto x.0) got.given got.next in
          let fresh1 = get_fresh (proto v.0) (clear v.0) index.next array_known array index.given in
          let many : length got.next ≡ hosts = fresh1.known ∙ index_fresh.known ∙ ties.ready.known in
          let known2 = known_at hosts t deal inputs dealt proto clear declared (proto x.0) (declared x.0) got.next many in
          let fresh2 = moved_fresh (proto v.0) (proto x.0) (clear v.0) (clear x.0) got.given.at got.next known2 in
          let framed1 = runs_framed (Free index.next) k.known t got.acts m p fresh1.touches run1 in
          let framed2 = runs_framed (Free got.next) k.known t moved.acts p u fresh2.touches run2 in
          let still : (h r : ℕ) → r < slice_index e.next h → (u h).registers r ≡ (w h).registers r =
          λ h r low.
          let a = index_fresh.longer h in
          let b = fresh1.longer h in
          still_of got.next p u framed2 h r (omega (arith, low, a, b)) ∙ still_of index.next m p framed1 h r (omega (arith, low, a)) ∙ still_of e.next w m index_framed h r low
          in
          let word = slice_index (array_at c v) (word_at c i) in
          let between = shadow.between in
          let below : Below (machine t inputs) (suite t inputs hosts) index.next array = array_below in
          let shadow_array = theory.still w0 between.reached (proto v.0) array (Cells (array_at c0 v)) (ties.stands Array v.0 sees_v) (λ h r n. between.leads.kept h r (ties.below Array v.0 sees_v h r n) (λ z. z)) in
          let g = theory.get_law (proto v.0) (declared v.0) holds array (array_at c0 v) index.given (word_at c0 i) index.next between.reached (ready_past (machine t inputs) (suite t inputs hosts) e.next w0 index.acts index.next ties.ready between)
          below shadow_array shadow.there in
          record {
            words = [];
            after = with_word x word c;
            runs = λ more. refl;
            trust = trust_more hosts t inputs proto clear k.known k.kept o e.next e.held w0 c0 ties w u c (with_word x word c) Binding x.0 moved.given is still
                (quiet_outer hosts t inputs proto clear k.known k.kept (Free got.next) p u c.world framed2 (quiet_outer hosts t inputs proto clear k.known k.kept (Free index.next) m p c.world framed1
                (quiet_outer hosts t inputs proto clear k.known k.kept (Free e.next) w m c.world index_framed trust.outer)))
                (λ there.
                let both = and_parts (k.kept v.0) (k.kept i.0) (only (k.kept x.0) (k.kept v.0 && k.kept i.0) flows there) in
                let cells = array_right both.0 in
                let small = trust.small Array v.0 sees_v both.0 (word_at c i) in
                let first = get_right k.known t (proto v.0) index.next m array_known array index.given (array_at c v) (word_at c i) cells.0 (placed hosts t inputs proto clear o e.next e.held w0 c0 ties Array v.0 sees_v) array_below cells.1
                (index_there both.1) index_low p run1 in
                subst (λ z. AreRight k.known u moved.given.at z) (sym (item_put 0 c.words x.0 word))
                (moved_right k.known t got.next p (proto v.0) (proto x.0) (clear v.0) (clear x.0) (known_at hosts t deal inputs dealt proto clear declared (proto v.0) (declared v.0) got.next many) known2 got.given.at word
                (from_gives hosts t deal inputs dealt proto clear declared k declassified stays (proto v.0) (clear v.0) index.next _ got between.reached (slice_index (array_at c0 v) (word_at c0 i)) g p word first small) (stays v.0 both.0) u run2))
                (λ there.
                let both = and_parts (k.kept v.0) (k.kept i.0) (only (k.kept x.0) (k.kept v.0 && k.kept i.0) flows there) in
                subst (λ z. z < 2 ^ 32) (sym (item_put 0 c.words x.0 word)) (trust.small Array v.0 sees_v both.0 (word_at c i)))
                (other_word x word c) trust;
            kept = λ h r low n. still h r low;
          }

      -- the element is written
      pub put_leads : (y : SlotId) → Sees o Binding y.0 → (suite t inputs hosts).joins (proto y.0) (proto v.0) ≡ true → only_with (k.kept v.0) (k.kept i.0 && k.kept y.0) ≡ true
          → let moved = (suite_calls hosts).move (proto y.0) (proto v.0) (part_of hosts t inputs proto clear e.held y.0) index.next in
          (p u : Hosts) → RunsGadgets k.known t moved.acts m p → RunsGadgets k.known t ((suite_calls hosts).put (proto v.0) array index.given moved.given) p u
          → Goes o o e.next e.held e.held (given_step k.given.endorsed (Stmt-F.Put v i y)) turn w u c
      put_leads y sees_y joins flows p u run1 run2 =
          let from = part_of hosts t inputs proto clear e.held y.0 in
          let one = (suite_calls hosts).move (proto y.0) (proto v.0) from index.next in
          let writes = (suite_calls hosts).put (proto v.0) array index.given one.given in
          let fresh1 = moved_fresh (proto y.0) (proto v.0) (clear y.0) (clear v.0) from.at index.next array_known in
          let framed1 = runs_framed (Free index.next) k.known t one.acts m p fresh1.touches run1 in
          let at = placed hosts t inputs proto clear o e.next e.held w0 c0 ties Array v.0 sees_v in
          let over = runs_framed (Names array) k.known t writes p u (put_touches k.known t array index.given one.given.at (holders (proto v.0)) (λ h j. subst (λ (l : List HostId). IsHost l h) (sym at) j)) run2 in
          let before : (h r : ℕ) → r < slice_index e.next h → (p h).registers r ≡ (w h).registers r =
          λ h r low. let a = index_fresh.longer h in still_of index.next m p framed1 h r (omega (arith, low, a)) ∙ still_of e.next w m index_framed h r low in
          let still : (h r : ℕ) → r < slice_index e.next h → (Names array h r → ⊥) → (u h).registers r ≡ (w h).registers r = λ h r low n. over.registers h r n ∙ before h r low in
          let words = slice_set (array_at c v) (word_at c i) (word_at c y) in
          let between = shadow.between in
          let t1 = tied_past (machine t inputs) (suite t inputs hosts) proto theory o e.next index.next e.held w0 between.reached c0 index.acts ties between.leads between.quiet between.known between.longer in
          let g = moved (machine t inputs) (suite t inputs hosts) proto theory declared o index.next e.held between.reached c0 t1 y.0 sees_y (proto v.0) (declared v.0) joins in
          let split : k.kept v.0 ≡ true → (k.kept i.0 ≡ true) × (k.kept y.0 ≡ true) = λ there. and_parts (k.kept i.0) (k.kept y.0) (only (k.kept v.0) (k.kept i.0 && k.kept y.0) flows there) in
          record {
            words = [];
            after = with_array v words c;
            runs = λ more. refl;
            trust = trust_written hosts t inputs proto clear k.known k.kept o e.next e.held w0 c0 ties w u c (with_array v words c) Array v.0 sees_v refl still
                (quiet_outer hosts t inputs proto clear k.known k.kept (Names array) p u c.world over (quiet_outer hosts t inputs proto clear k.known k.kept (Free index.next) m p c.world framed1
                (quiet_outer hosts t inputs proto clear k.known k.kept (Free e.next) w m c.world index_framed trust.outer)))
                (λ there.
                let both = split there in
                let cells = content_stays k.known w p array (Cells (array_at c v)) tt (λ h r n. before h r (ties.below Array v.0 sees_v h r n)) (trust.right Array v.0 sees_v there) in
                let op = operand_later k.known (proto y.0) e.next index.next w m from.at (word_at c y) index_fresh.longer (still_of e.next w m index_framed)
                (operand hosts t inputs proto clear k.known k.kept o e.next e.held w0 c0 ties w c trust y.0 sees_y both.1) in
                let right = moved_right k.known t index.next m (proto y.0) (proto v.0) (clear y.0) (clear v.0) (known_at hosts t deal inputs dealt proto clear declared (proto y.0) (declared y.0) index.next (index_fresh.known ∙ ties.ready.known)) array_known from.at (word_at c y) op (stays y.0 both.1) p run1 in
                let made = from_gives hosts t deal inputs dealt proto clear declared k declassified stays (proto v.0) (clear v.0) index.next _ one between.reached (slice_index c0.words y.0) g p (word_at c y) right op.word in
                subst (λ z. IsRightIn k.known u array (Cells z)) (sym (item_put [] c.arrays v.0 words)) (
                  cells.0 ∙ sym (length-set (array_at c v) (word_at c i) (word_at c y)),
                  put_right k.known t array index.given one.given.at (proto v.0) (holders_apart (proto v.0) (declared v.0).ordered) p u (array_at c v) (word_at c i) (word_at c y) cells.0 at made.at cells.1
                      (λ h j keep. still_of index.next m p framed1 h (index_of index.given h).0 (index_low h j) ∙ index_there both.0 h j keep) right run2,
                ))
                (λ there. let both = split there in subst (λ (l : List ℕ). (j : ℕ) → slice_index l j < 2 ^ 32) (sym (item_put [] c.arrays v.0 words)) (small_set (array_at c v) (word_at c i) (word_at c y) (trust.small Array v.0 sees_v there) (trust.small Binding y.0 sees_y both.1)))
                (other_array v words c) trust;
            kept = λ h r low n. still h r low (n Array v.0 sees_v refl);
          }
