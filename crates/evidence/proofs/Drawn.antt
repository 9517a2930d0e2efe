-- The text of a picture has the rectangles and the lines that it is of.
use Rattle.std.proofs.Common.{◌≡◌, ℕ, ◌+◌, ◌-◌, ◌<◌, ◌∙◌, List, ◌++◌, Contains, length, slice_index, append_assoc, arith, ap, eq-eqb}
use Rattle.std.specs.Prelude.{codes}
use Rattle.ttp_model.specs.declared.plan.Plan.{Plan}
use Rattle.ttp_model.specs.Instance.{Instance, message_at, node_at, process_at}
use Rattle.ttp_model.specs.Delays.{delay}
use Rattle.ttp_model.specs.Plans.{load_on}
use Rattle.ttp_model.specs.Slots.{duration, slot_start}
use Rattle.tt_layout.specs.Cycle.{cycle_rounds}
use Rattle.plan_sheets.specs.declared.slots.Slot.{Slot}
use Rattle.plan_sheets.specs.Slots.{slot_of}
use Rattle.plan_sheets.specs.declared.pictures.canvas.Canvas.{Canvas}
use Rattle.plan_sheets.specs.declared.pictures.picture.Shown.{Shown}
use Rattle.plan_sheets.specs.declared.pictures.picture.Shown.TheVariants.{All}
use Rattle.plan_sheets.specs.declared.pictures.rectangle.Rectangle.{Rectangle}
use Rattle.plan_sheets.specs.declared.pictures.slots.Load.TheVariants.{Messages, Nothing}
use Rattle.plan_sheets.specs.Canvas.{canvas_of, tenths_text}
use Rattle.plan_sheets.specs.DeliveryLines.{deliveries_text, delivery_of, delivery_text, delivery_title, line_text, lines_text, message_text, sending_text}
use Rattle.plan_sheets.specs.Picture.{boxes_text, head_text, hollow_text, limits_text, picture_text, ticks_text, whole_text}
use Rattle.plan_sheets.specs.Processes.{process_name_text, process_rectangle, process_text, process_title_text, processes_text}
use Rattle.plan_sheets.specs.Rectangles.{opened_text, opening_text, rectangle_text}
use Rattle.plan_sheets.specs.Rows.{rows_text}
use Rattle.plan_sheets.specs.Scale.{delay_text, scale_text}
use Rattle.plan_sheets.specs.SlotRectangles.{hollow_slot_text, position_slots, round_slots, slot_at, slot_rectangle, slot_words, slots_text}
use Rattle.evidence.specs.Parts.{IsPartOf}
use Rattle.evidence.specs.Pictures.{delivery_line, process_box, rectangle_at, slot_box}
use Rattle.evidence.proofs.Parts.{element, first, later, numbered, sooner, within}

-- how a rectangle is written
rectangle-written : (r : Rectangle) → rectangle_text r ≡ rectangle_at r.row r.node r.start r.length
unfolding rectangle_text
rectangle-written r = simp append_assoc

-- a process has its own
opened-has : (c : Canvas) (r : Rectangle) → IsPartOf (rectangle_text r) (opened_text c r)
unfolding opened_text
opened-has c r = first (rectangle_text r) (opening_text c r)

process-has : (c : Canvas) (i : Instance) (plan : Plan) (p : ℕ) → IsPartOf (rectangle_text (process_rectangle i plan p)) (process_text c i plan p)
unfolding process_text
process-has c i plan p =
    let r = process_rectangle i plan p in
    let name = process_name_text (process_at i p).name in
    later (rectangle_text r) (process_title_text i plan p) (opened_text c r ++ name) (sooner (rectangle_text r) (opened_text c r) name (opened-has c r))

processes-have : (c : Canvas) (i : Instance) (plan : Plan) (p : ℕ) → p < length i.processes → IsPartOf (process_text c i plan p) (processes_text c i plan)
unfolding processes_text
processes-have c i plan p inside = numbered (process_text c i plan) (length i.processes) p inside

-- and so has a slot that carries nothing, where each is shown
hollow-has : (i : Instance) (s : Slot) (r : Rectangle) → IsPartOf (rectangle_text r) (hollow_slot_text i s r)
unfolding hollow_slot_text
hollow-has i s r =
    later _ (codes "<g><title>") _ (later _ (slot_words (node_at i s.node).name s) _ (later _ (codes "</title>") _ (first (rectangle_text r) (codes "</g>\n"))))

slot-has : (c : Canvas) (i : Instance) (plan : Plan) (r k channel : ℕ) → (slot_of i plan r k channel).used ≡ 0
    → IsPartOf (rectangle_text (slot_rectangle (slot_of i plan r k channel))) (slot_at c i plan Nothing r k channel)
unfolding slot_at
slot-has c i plan r k channel none =
    let s = slot_of i plan r k channel in
    let box = rectangle_text (slot_rectangle s) in
    rw (eq-eqb s.used 0 none) (sooner box (hollow_slot_text i s (slot_rectangle s)) _ (hollow-has i s (slot_rectangle s)))

position-has : (c : Canvas) (i : Instance) (plan : Plan) (r k channel : ℕ) → channel < i.cluster.channels
    → IsPartOf (slot_at c i plan Nothing r k channel) (position_slots c i plan Nothing r k)
unfolding position_slots
position-has c i plan r k channel there = numbered (slot_at c i plan Nothing r k) i.cluster.channels channel there

round-has : (c : Canvas) (i : Instance) (plan : Plan) (r k : ℕ) → k < length i.nodes
    → IsPartOf (position_slots c i plan Nothing r k) (round_slots c i plan Nothing r)
unfolding round_slots
round-has c i plan r k inside = numbered (position_slots c i plan Nothing r) (length i.nodes) k inside

slots-have : (c : Canvas) (i : Instance) (plan : Plan) (r : ℕ) → r < cycle_rounds i plan
    → IsPartOf (round_slots c i plan Nothing r) (slots_text c i plan Nothing)
unfolding slots_text
slots-have c i plan r inside = numbered (round_slots c i plan Nothing) (cycle_rounds i plan) r inside

-- and so has a message the lines to its receivers
delivery-has : (c : Canvas) (i : Instance) (plan : Plan) (m q : ℕ) → IsPartOf (line_text c (delivery_of i plan m q)) (delivery_text c i plan m q)
unfolding delivery_text
delivery-has c i plan m q =
    first (line_text c (delivery_of i plan m q)) (delivery_title (message_at i m).name (process_at i q).name (delivery_of i plan m q))

message-has : (c : Canvas) (i : Instance) (plan : Plan) (m q : ℕ) → Contains (message_at i m).receivers q
    → IsPartOf (delivery_text c i plan m q) (message_text c i plan m)
unfolding message_text deliveries_text
message-has c i plan m q there =
    let line = element (delivery_text c i plan m) (message_at i m).receivers q there in
    later (delivery_text c i plan m q) (sending_text c i plan m) (deliveries_text c i plan m) line

lines-have : (c : Canvas) (i : Instance) (plan : Plan) (m : ℕ) → m < length i.messages → IsPartOf (message_text c i plan m) (lines_text c i plan)
unfolding lines_text
lines-have c i plan m inside = numbered (message_text c i plan) (length i.messages) m inside

-- the picture has all of them
boxes-have_processes : (c : Canvas) (i : Instance) (plan : Plan) (shown : Shown) → IsPartOf (processes_text c i plan) (boxes_text c i plan shown)
unfolding boxes_text
boxes-have_processes c i plan shown =
    let processes = first (processes_text c i plan) (codes "</svg>\n") in
    later _ (ticks_text c) _ (later _ (hollow_text c i plan shown) _ (later _ (slots_text c i plan Messages) _ processes))

boxes-have_slots : (c : Canvas) (i : Instance) (plan : Plan) → IsPartOf (slots_text c i plan Nothing) (boxes_text c i plan All)
unfolding boxes_text
boxes-have_slots c i plan = later _ (ticks_text c) _ (sooner _ (hollow_text c i plan All) _ (first (slots_text c i plan Nothing) _))

whole-has_boxes : (c : Canvas) (i : Instance) (plan : Plan) (shown : Shown) → IsPartOf (boxes_text c i plan shown) (whole_text c i plan shown)
unfolding whole_text
whole-has_boxes c i plan shown =
    let boxes = first (boxes_text c i plan shown) (limits_text c i) in
    let lines = later _ (lines_text c i plan) _ boxes in
    later _ (head_text c i plan) _ (later _ (rows_text c i) _ (later _ (scale_text c) _ (later _ (delay_text c (delay i plan)) _ lines)))

whole-has_lines : (c : Canvas) (i : Instance) (plan : Plan) (shown : Shown) → IsPartOf (lines_text c i plan) (whole_text c i plan shown)
unfolding whole_text
whole-has_lines c i plan shown =
    let lines = first (lines_text c i plan) (boxes_text c i plan shown ++ limits_text c i) in
    later _ (head_text c i plan) _ (later _ (rows_text c i) _ (later _ (scale_text c) _ (later _ (delay_text c (delay i plan)) _ lines)))

-- a text that is the same is a part too
spelled : (a b text : List ℕ) → a ≡ b → IsPartOf a text → IsPartOf b text
spelled a b text same part = (part.0, part.1, rw (← same) part.2)

pub process-drawn : (i : Instance) (plan : Plan) (width : ℕ) (shown : Shown) (p : ℕ) → p < length i.processes
    → IsPartOf (process_box i plan p) (picture_text i plan width shown)
process-drawn i plan width shown p inside =
    let c = canvas_of i plan width in
    let box = rectangle_text (process_rectangle i plan p) in
    let one = process_text c i plan p in
    let all = processes_text c i plan in
    let boxes = boxes_text c i plan shown in
    let whole = whole_text c i plan shown in
    let processes = within all boxes whole (boxes-have_processes c i plan shown) (whole-has_boxes c i plan shown) in
    let process = within one all whole (processes-have c i plan p inside) processes in
    let rectangle = within box one whole (process-has c i plan p) process in
    spelled box (process_box i plan p) whole (rectangle-written (process_rectangle i plan p)) rectangle

slot-written : (i : Instance) (plan : Plan) (r k channel : ℕ)
    → rectangle_text (slot_rectangle (slot_of i plan r k channel)) ≡ slot_box i plan (slice_index plan.order k) r channel
slot-written i plan r k channel =
    let n = slice_index plan.order k in
    let start = slot_start i.cluster plan.order plan.caps n r in
    let long = duration i.cluster plan.caps n in
    let same : start + long - start ≡ long = omega arith in
    rectangle-written (slot_rectangle (slot_of i plan r k channel)) ∙ ap (rectangle_at channel n start) same

pub slot-drawn : (i : Instance) (plan : Plan) (width r k channel : ℕ) → r < cycle_rounds i plan → k < length i.nodes → channel < i.cluster.channels
    → load_on i plan (slice_index plan.order k) r channel ≡ 0 → IsPartOf (slot_box i plan (slice_index plan.order k) r channel) (picture_text i plan width All)
slot-drawn i plan width r k channel round inside there none =
    let c = canvas_of i plan width in
    let box = rectangle_text (slot_rectangle (slot_of i plan r k channel)) in
    let one = slot_at c i plan Nothing r k channel in
    let position = position_slots c i plan Nothing r k in
    let some = round_slots c i plan Nothing r in
    let all = slots_text c i plan Nothing in
    let boxes = boxes_text c i plan All in
    let whole = whole_text c i plan All in
    let slots = within all boxes whole (boxes-have_slots c i plan) (whole-has_boxes c i plan All) in
    let slots_of_round = within some all whole (slots-have c i plan r round) slots in
    let slots_there = within position some whole (round-has c i plan r k inside) slots_of_round in
    let slot = within one position whole (position-has c i plan r k channel there) slots_there in
    let rectangle = within box one whole (slot-has c i plan r k channel none) slot in
    spelled box (slot_box i plan (slice_index plan.order k) r channel) whole (slot-written i plan r k channel) rectangle

line-written : (i : Instance) (plan : Plan) (width m q : ℕ) → line_text (canvas_of i plan width) (delivery_of i plan m q) ≡ delivery_line i plan width m q
unfolding line_text tenths_text
line-written i plan width m q = simp append_assoc

pub delivery-drawn : (i : Instance) (plan : Plan) (width : ℕ) (shown : Shown) (m q : ℕ) → m < length i.messages
    → Contains (message_at i m).receivers q → IsPartOf (delivery_line i plan width m q) (picture_text i plan width shown)
delivery-drawn i plan width shown m q inside there =
    let c = canvas_of i plan width in
    let line = line_text c (delivery_of i plan m q) in
    let one = delivery_text c i plan m q in
    let some = message_text c i plan m in
    let all = lines_text c i plan in
    let whole = whole_text c i plan shown in
    let lines = within some all whole (lines-have c i plan m inside) (whole-has_lines c i plan shown) in
    let delivery = within one some whole (message-has c i plan m q there) lines in
    let begun = within line one whole (delivery-has c i plan m q) delivery in
    spelled line (delivery_line i plan width m q) whole (line-written i plan width m q) begun
