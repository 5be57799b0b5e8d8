use Rattle.std.proofs.Common.{◌≡◌, ◌+◌, ◌<◌, ◌==◌, ◌∷◌, [], false, sym, ap, ◌∙◌, refl, subst, length, length-append, set, get_or, get_or-set_same, get_or-set_other, slice_range, slice_index, arith}
use mathlib.Core.Logic.{dite}
use mathlib.Core.Option.{some}
use native.Mathlib.Decide.{ℕ_discrete}
use lib.ListN.{get_elem?}
use denote.Param.{param}
use Rattle.core.specs.Mem.Slots.{slots_items, slots_filled, slots_len, slots_counts, IsFull}
use Rattle.apl_rooms.proofs.Layouts.{glues}
use Rattle.apl_rooms.proofs.Lengths.{rising}
use Rattle.apl_rooms.proofs.Marks.{at_get, closed_room, marked_next, room_said, two}
use Rattle.apl_rooms.proofs.rooms.Rooms.close.Goals as goal

pub loop-number-init : goal.loop-number-init
loop-number-init g c = (
  refl,
  c.args.self.empty.0 ∙ sym c.requires.rooms.first,
  refl,
  refl,
  refl,
  (λ k low high. c.close_with-closed.ensures.values.1 k low high),
  (λ k low. absurd (omega arith)),
  ap length c.args.self.unmarked,
  refl,
  λ k low. absurd (omega arith),
)

pub take-requires : goal.take-requires
take-requires g c =
    let so_far = c.loop-number.invariant in
    let inside : c.loop-number.number < slots_len c.loop-number.closed.slots = (let t = c.loop-number-test.true in omega (arith, c.slot_count-number-end.ensures, so_far.3)) in
    (inside, so_far.5 c.loop-number.number (omega arith) inside)

pub unreachable-requires : goal.unreachable-requires
unreachable-requires g c =
    let R = param 0 g.row.T in
    let start = g.F.Task.start_of c.args.self.table.shared.key.task.value in
    let so_far = c.loop-number.invariant in
    let n = c.loop-number.number in
    let inside : n < g.F.Task.piece_count c.args.self.table.shared.key.task.value = (let t = c.loop-number-test.true in omega (arith, c.slot_count-number-end.ensures, c.close_with-closed.ensures.counts.1, c.args.self.slots, c.requires.rooms.number)) in
    let at : get_elem? (slots_items c.close_with-closed.result.slots) n ≡ some c.take.result = subst (λ l. get_elem? l n ≡ some c.take.result) so_far.2 c.take.ensures.value in
    let its = closed_room R start _ _ _ _ c.requires.rooms (g.F.Task.is_right c.args.self.table.shared.key.task.value) c.args.self.table.shared.key.seats c.args.seat.seat.id c.args.seat.seat.me.0 (slots_items c.close_with-closed.result.words) (slots_items c.close_with-closed.result.slots)
    c.requires.all c.args.seat.idle c.close_with-closed.ensures.values.2 n c.take.result inside at in
    c.in_default.not-Some its.0 its.1

pub glue-whole-requires : goal.glue-whole-requires
glue-whole-requires g c =
    let R = param 0 g.row.T in
    let start = g.F.Task.start_of c.args.self.table.shared.key.task.value in
    let so_far = c.loop-number.invariant in
    let n = c.loop-number.number in
    let inside : n < g.F.Task.piece_count c.args.self.table.shared.key.task.value = (let t = c.loop-number-test.true in omega (arith, c.slot_count-number-end.ensures, c.close_with-closed.ensures.counts.1, c.args.self.slots, c.requires.rooms.number)) in
    let at : get_elem? (slots_items c.close_with-closed.result.slots) n ≡ some c.take.result = subst (λ l. get_elem? l n ≡ some c.take.result) so_far.2 c.take.ensures.value in
    let its = closed_room R start _ _ _ _ c.requires.rooms (g.F.Task.is_right c.args.self.table.shared.key.task.value) c.args.self.table.shared.key.seats c.args.seat.seat.id c.args.seat.seat.me.0 (slots_items c.close_with-closed.result.words) (slots_items c.close_with-closed.result.slots)
    c.requires.all c.args.seat.idle c.close_with-closed.ensures.values.2 n c.take.result inside at in
    let said = room_said R start _ (λ w. g.F.Task.is_right c.args.self.table.shared.key.task.value n w) n (slice_index (slots_items c.close_with-closed.result.words) n) c.take.result its.0 c.in-Some.room its.1 c.in-Some.is its.2 its.3 in
    glues R start _ _ _ _ c.requires.rooms n c.loop-number.whole.len c.loop-number.whole.ptr c.in-Some.room inside (so_far.0 ∙ c.args.self.empty.1) so_far.1 said.0

pub word-requires : goal.word-requires
word-requires g c =
    let so_far = c.loop-number.invariant in
    let inside = c.loop-number-test.true in
    let same = c.take.ensures.others.3 ∙ so_far.4 in
    let long : c.loop-number.number < slots_len c.close_with-closed.result.words = omega (arith, c.slot_count-number-end.ensures, c.close_with-closed.ensures.counts.0, c.close_with-closed.ensures.counts.1, c.args.self.slots, c.args.self.words) in
    (subst (λ w. c.loop-number.number < slots_len w) (sym same) long, subst (λ w. IsFull w) (sym same) c.close_with-closed.ensures.values.0)

pub push_reserved-requires : goal.push_reserved-requires
push_reserved-requires g c =
    let so_far = c.loop-number.invariant in
    let inside = c.loop-number-test.true in
    omega (arith, c.loop-number.marks.ok.0, so_far.7, so_far.8, c.args.self.room, c.slot_count-number-end.ensures, c.close_with-closed.ensures.counts.1, c.args.self.slots)

pub loop-number-preserved : goal.loop-number-preserved
loop-number-preserved g c =
    let R = param 0 g.row.T in
    let start = g.F.Task.start_of c.args.self.table.shared.key.task.value in
    let so_far = c.loop-number.invariant in
    let n = c.loop-number.number in
    let inside : n < g.F.Task.piece_count c.args.self.table.shared.key.task.value = (let t = c.loop-number-test.true in omega (arith, c.slot_count-number-end.ensures, c.close_with-closed.ensures.counts.1, c.args.self.slots, c.requires.rooms.number)) in
    let at : get_elem? (slots_items c.close_with-closed.result.slots) n ≡ some c.take.result = subst (λ l. get_elem? l n ≡ some c.take.result) so_far.2 c.take.ensures.value in
    let its = closed_room R start _ _ _ _ c.requires.rooms (g.F.Task.is_right c.args.self.table.shared.key.task.value) c.args.self.table.shared.key.seats c.args.seat.seat.id c.args.seat.seat.me.0 (slots_items c.close_with-closed.result.words) (slots_items c.close_with-closed.result.slots)
    c.requires.all c.args.seat.idle c.close_with-closed.ensures.values.2 n c.take.result inside at in
    let said = room_said R start _ (λ w. g.F.Task.is_right c.args.self.table.shared.key.task.value n w) n (slice_index (slots_items c.close_with-closed.result.words) n) c.take.result its.0 c.in-Some.room its.1 c.in-Some.is its.2 its.3 in
    let glued = c.glue-whole.ensures in
    let others = c.take.ensures.others in
    let filled = slots_filled c.loop-number.closed.slots in
    let pushed = c.push_reserved.ensures in
    let many : n < length filled = (let t = c.loop-number-test.true in omega (arith, c.slot_count-number-end.ensures, so_far.3, (slots_counts c.loop-number.closed.slots).1)) in
    let words = others.3 ∙ so_far.4 in
    let word_is : slice_index (slots_items c.close_with-closed.result.words) n ≡ c.word.result = at_get (slots_items c.close_with-closed.result.words) n c.word.result (subst (λ w. get_elem? (slots_items w) n ≡ some c.word.result) words c.word.ensures) in
    let here : start n ≡ length c.loop-number.whole.items = omega (arith, so_far.1, c.loop-number.whole.ok) in
    let there : start n + length c.in-Some.room.items ≡ start (n + 1) = omega (arith, said.0.1, c.in-Some.room.ok) in
    let all = marked_next (g.F.Task.is_right c.args.self.table.shared.key.task.value) start n c.loop-number.marks.items (c.word.result == 2) c.loop-number.whole.items c.in-Some.room.items so_far.7 here there
    (λ k lt. (let each = (c.requires.rooms.each k (omega (arith, inside))).2.1 in omega arith, rising R start _ _ _ _ c.requires.rooms n k lt (omega (arith, inside))))
    (λ e. said.1 (word_is ∙ two c.word.result e)) so_far.9 in (
      glued.1 ∙ so_far.0,
      omega (arith, glued.2, so_far.1, said.0.1),
      others.0 ∙ so_far.2,
      others.2 ∙ so_far.3,
      others.3 ∙ so_far.4,
      (λ k low high. ap (λ f. get_or f k false) others.1 ∙ get_or-set_other filled n k false false (λ (e : k ≡ n). absurd (omega arith)) ∙ so_far.5 k (omega arith) (omega (arith, others.2))),
      (λ k low. dite (ℕ_discrete k n)
          (λ e. ap (λ f. get_or f k false) others.1 ∙ subst (λ j. get_or (set filled n false) j false ≡ false) (sym e) (get_or-set_same filled n false false many))
          (λ ne. ap (λ f. get_or f k false) others.1 ∙ get_or-set_other filled n k false false ne ∙ so_far.6 k (omega arith))),
      ap length pushed.items ∙ length-append c.loop-number.marks.items ((c.word.result == 2) ∷ []) ∙ omega (arith, so_far.7),
      pushed.capacity ∙ so_far.8,
      λ k lt mark. subst (λ xs. g.F.Task.is_right c.args.self.table.shared.key.task.value k (slice_range xs (start k) (start (k + 1)))) (sym glued.0) (all k lt (ap (λ ms. get_or ms k false) (sym pushed.items) ∙ mark)),
    )

pub free-requires : goal.free-requires
free-requires g c = λ k lt. let so_far = c.loop-number.invariant in so_far.6 k (let t = c.loop-number-test.false in omega (arith, c.slot_count-number-end.ensures, so_far.3))

pub returns-clause-row : goal.returns-clause-row
returns-clause-row g c =
    let so_far = c.loop-number.invariant in
    let end = c.loop-number.auto.number-end in
    let last = c.loop-number-test.false in
    let whole = c.into_slots.ensures in
    let all : c.loop-number.number ≡ g.F.Task.piece_count c.args.self.table.shared.key.task.value = omega (arith, c.slot_count-number-end.ensures, c.close_with-closed.ensures.counts.1, c.args.self.slots, c.requires.rooms.number) in
    record {
      places = record {
        start = whole.0 ∙ so_far.0 ∙ c.args.self.empty.1;
        count = whole.1 ∙ so_far.1 ∙ ap (g.F.Task.start_of c.args.self.table.shared.key.task.value) all ∙ c.requires.rooms.last;
      };
      full = whole.3;
    }

pub returns-clause-marks : goal.returns-clause-marks
returns-clause-marks g c =
    let so_far = c.loop-number.invariant in
    let end = c.loop-number.auto.number-end in
    let last = c.loop-number-test.false in
    omega (arith, c.loop-number.marks.ok.0, so_far.7, c.slot_count-number-end.ensures, c.close_with-closed.ensures.counts.1, c.args.self.slots, c.requires.rooms.number)

pub returns-clause-right : goal.returns-clause-right
returns-clause-right g c = λ k lt mark.
    let so_far = c.loop-number.invariant in
    let last = c.loop-number-test.false in
    let task = c.args.self.table.shared.key.task.value in
    let start = g.F.Task.start_of task in
    let before : k < c.loop-number.number = omega (arith, c.slot_count-number-end.ensures, c.close_with-closed.ensures.counts.1, c.args.self.slots, c.requires.rooms.number) in
    subst (λ xs. g.F.Task.is_right task k (slice_range xs (start k) (start (k + 1)))) (sym c.into_slots.ensures.2) (so_far.9 k before mark)
