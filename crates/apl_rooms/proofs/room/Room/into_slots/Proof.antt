-- A room is the places of a full row.
use Rattle.atomic_table.proofs.Names.{◌≡◌, ℕ, ◌++◌, id⊢, ent, WpFn, ◌<◌, List, [], ◌∷◌, length, sym, refl, ap, ◌∙◌, subst, a_type, Val, inst_fn, SProp, emp, Lft, Share, ftrue, flft, ‵, raw, ◌⊛◌, some, given, later, at_ret, ◌$◌, ◌∵◌, !, qed, by, move, keep, split, join, fsplit, fjoin, pick, learn, use0, use1, use2, await, stop, fld, of_opd, no_more, and_then, first, blocks, exec, returns, enter, alloc_all, pass_all, free_all, look_at, get, get_in, sets, lands_last, is, env, sub, whole, tables, no, RattleType, owns, types_at, plain, nothing, param, layouts, Stays, stay_dropped, walk_of, Goes-dropped, fact, fact_i, heard, Bool, true, replicate, length-replicate, get_or-replicate, WT, ◌⊑◌, calls_at_last}
use Rattle.atomic_table.proofs.Walks.{proved_at, leaves}
use Rattle.core.proofs.atomic.Steps.{tail}
use Rattle.atomic_table.proofs.Calls.{fm}
use Rattle.core.specs.Mem.Slots.{slots_items, slots_ptr, slots_len, IsFull}
use Rattle.core.proofs.mem.Param.{El}
use Rattle.core.proofs.slots.Opens.{row_val}
use Rattle.core.proofs.slots.Slots.from_raw_parts.Met as callee
use Rattle.apl_rooms.proofs.Opens.{Rr, room_d, room_had}
use Rattle.atomic_table.proofs.Raw.{Row, row_Typed, From, at_from, Made, from_goes, from_gives}
use Rattle.apl_rooms.specs.contracts.room.Room.into_slots.{ended, clauses}
use Rattle.apl_rooms.specs.contracts.room.Room.into_slots.Key.{name as #self}
use Rattle.apl_rooms.proofs.room.Room.into_slots.Statement.{statement}
use Rattle.apl_rooms.proofs.room.Room.into_slots.Code as code

pub into_slots_spec : {M : Type 1} → statement M
into_slots_spec 𝓤 𝓛 𝓜 𝓡 wired T L =
    let H = 𝓛.H in let 𝓣 = tables 𝓤 H 𝓜 𝓡 𝓡.env in let R : RattleType = param 0 T in let E : El = record { row = T; laws = L } in let En = ended T in
    let inst = layouts (a_type ∷ []) (T, tt) in let fn = inst_fn inst code.function in let c = clauses T 𝓛 𝓜.mem 𝓡.returns in
    let met = callee.met 𝓤 𝓛 𝓜 𝓡 (code.calls-core::slots::Slots::from_raw_parts 𝓡.env wired) T L in
    let hs : Stays En.signature.params En.kept = (stay_dropped (plain (λ _. Rr E)) no, tt) in
    proved_at 𝓛 En hs c 𝓜 𝓡 (Goes-dropped 𝓛 1 (plain (λ _. Rr E)) no (λ κs x f. refl), tt) (#self inst) fn (code.unfolded 𝓤 H 𝓜 𝓡 wired (T, tt)) (λ z are.
    let κ : Lft = z.0.0.0 in let q : Share = z.0.1.0 in let r : room_d E = z.0.3.0 in let vss = z.0.4 in let k : ℕ = r.len in let xs : List T.Denot = r.items in let fs : List Bool = replicate k true in
    let Post : Val → SProp 𝓤 = (walk_of 𝓛 En hs c).post z in let Run : List Val → SProp 𝓤 = λ ws. WpFn 𝓤 H 𝓣.C 𝓣.Λ fn ws Post in
    qed 𝓛 (((‵ (flft κ q) ⊛ ‵ ftrue) ⊛ ‵ (owns (types_at En.signature.params z.0.0) z.0.3 vss)) ∷ raw (fact 𝓤 (κ ⊑ T.lives)) ∷ raw (fact 𝓤 (k ≡ length xs)) ∷ []) ∵
    move ! (1 ∷ 2 ∷ []) $ heard ! (κ ⊑ T.lives) (λ le. heard ! (k ≡ length xs) (λ lx₀. split ! $ split ! $ move ! (2 ∷ []) $ fsplit ! $ room_had E ! r vss.0 (λ b o at e fk fit. keep ! (0 ∷ 2 ∷ []) $
    let us : List Val = row_val b o k ∷ [] in let lx : k ≡ length xs = r.ok in let lf : k ≡ length fs = sym (length-replicate k true) in
    let words : WT (row_val b o k) = (tt, (record { fits = fk }, tt)) in
    types.Kit.suffices ! (Run us) (subst (λ (ws : List Val). ent 𝓤 (Run us) (Run ws)) (sym (λ i. e i ++ [])) (id⊢ 𝓤 (Run us))) $
    enter ! 𝓣.C 𝓣.Λ fn us Post $ alloc_all ! (λ l. pass_all ! refl ((tt, words), tt) $ let Ev = env fn.locals l in let y = at_from E 𝓛 𝓜.mem 𝓡.returns κ q b o k xs fs in
    sets ! (of_opd ! (get_in ! (fld ! refl (stop !)) (sub ! 0 refl (whole !)))) refl (tt, tt) $ sets ! (of_opd ! (get_in ! (fld ! refl (stop !)) (sub ! 1 refl (whole !)))) refl (tt, record { fits = fk }) $
    first ! $ blocks ! $
    use2 𝓛 (raw ((From E 𝓛 𝓜.mem 𝓡.returns).pre y)) (from_goes E 𝓛 𝓜.mem 𝓡.returns κ q b o k xs fs le lx lf fk fit) $
    calls_at_last ! (fm 𝓛 𝓜 𝓡) (From E 𝓛 𝓜.mem 𝓡.returns) met y (and_then ! (get ! refl) (and_then ! (get ! refl) (no_more !))) (λ v.
    use1 𝓛 (later (some (λ (n : (Row E).Denot). given ((v ≡ row_val b o k) × Made E 𝓛 𝓜.mem 𝓡.returns κ q b o k xs fs n) (‵ ((Row E).own_val n (row_val b o k ∷ [])) ⊛ ‵ (flft κ q)))))
    (from_gives E 𝓛 𝓜.mem 𝓡.returns κ q b o k xs fs v) $ await ! tt $ pick ! (λ n. learn ! (λ got. split ! $ let made = got.1 in
    let full : IsFull n = λ j low high. let near : j < k = subst (λ (m : ℕ). j < m) made.1 high in ap (λ (gs : List Bool). lib.ListN.get_or gs j mathlib.Core.Bool.false) made.3 ∙ get_or-replicate k j true mathlib.Core.Bool.false near in
    let Told : Type 0 = (slots_ptr n ≡ r.ptr) × (slots_len n ≡ k) × (slots_items n ≡ xs) × IsFull n in
    lands_last ! refl (row_Typed E v b o k got.0 fk) $ exec ! 𝓣.C 𝓣.Λ Ev (tail (tail (tail fn.body))) (at_ret Ev Post) $ sets ! (is ! (of_opd ! (get ! refl)) got.0) refl (tt, words) $
    nothing ! $ move ! (2 ∷ 0 ∷ []) $ join ! $ use0 𝓛 (raw (fact 𝓤 Told)) (fact_i 𝓤 Told (emp 𝓤) (made.0 ∙ sym at, made.1, made.2, full)) $ nothing ! $ nothing ! $ fjoin ! $
    returns ! (look_at ! 0 refl) $ free_all ! refl $ keep ! (2 ∷ 0 ∷ 3 ∷ 1 ∷ []) $ by ! (leaves 𝓛 En hs c z (row_val b o k) n (tt, tt) (tt, tt))))))))))
