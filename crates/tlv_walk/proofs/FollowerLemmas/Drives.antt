-- A walk over all that a source gives, turn by turn.
use Rattle.std.proofs.Common.{◌≡◌, ◌≢◌, ◌⊎◌, inl, inr, ℕ, ◌≤◌, ◌<◌, Bool, true, List, [], ◌∷◌, ◌++◌, length}
use Rattle.std.proofs.Common.{take, refl, sym, ap, ap₂, ◌∙◌, subst, arith, append-nil}
use Rattle.std.proofs.lemmas.List.{take_all}
use Rattle.std.proofs.lemmas.List.Elements.{All-append}
use Rattle.std.specs.Prelude.{if◌then◌else◌, Option, Result, Ok, Err, ⊤}
use Rattle.std.specs.Io.KnownBytes.{IsAtEnd}
use Rattle.tlv_walk.specs.declared.ending.Ending.{Ending}
use Rattle.tlv_walk.specs.declared.ending.Ending.TheVariants.{Done}
use Rattle.tlv_walk.specs.declared.follow.Go.{Go}
use Rattle.tlv_walk.specs.declared.follow.Go.TheVariants as go
use Rattle.tlv_walk.specs.declared.framing.Framing.{Framing}
use Rattle.tlv_walk.specs.declared.run.DeviceFault.{DeviceFault}
use Rattle.tlv_walk.specs.declared.run.DeviceFault.TheVariants.{ReadFailed, WriteFailed, InputTooLong}
use Rattle.tlv_walk.specs.declared.run.Run.{Run}
use Rattle.tlv_walk.specs.declared.run.Turn.{Turn}
use Rattle.tlv_walk.specs.declared.run.Turn.TheVariants.{Again, Ended}
use Rattle.std.specs.List.{concat}
use Rattle.tlv_io.specs.Device.{DrainState, LastReadValue, SourceState, failed, failures_after, gave, GaveLast}
use Rattle.tlv_walk.specs.DriveJob.{Drives, drive_job, drive_states, enough_run, run_over}
use Rattle.tlv_walk.specs.Events.{AreEqualJoined, EventValue, events}
use Rattle.tlv_walk.specs.Follow.{Effect, effect_of, followed_events, had_enough, FollowsEvents}
use Rattle.tlv_walk.specs.Forest.{Forest, spelling}
use Rattle.tlv_walk.specs.Ending.{IsEnding, IsFinalEnding}
use Rattle.tlv_walk.specs.Job.{ComesTo, EndsWith, RunsUpTo, WantMore, device_states, drain_result, read_failed}
use Rattle.tlv_walk.specs.Job.{source_result, too_long, with_enough, write_failed}
use Rattle.tlv_io.specs.Out.{Sends}
use Rattle.tlv_walk.specs.Reading.{AreOctets, IsReading}
use Rattle.tlv_walk.specs.Walker.{Stands}
use Rattle.tlv_walk.specs.WalkerState.{new_walker}
use Rattle.tlv_walk.specs.OneTurn.{EndsIn, FollowsMore, FollowsOneRead, LastReadWas, LastReadGaveUpTo, HasEnoughIn}
use Rattle.tlv_walk.specs.OneTurn.{HasWalked, TurnStates, last_octets, turn_states}
use Rattle.tlv_walk.specs.DriveJob.{first_not_among}
use Rattle.tlv_walk.proofs.FollowerLemmas.FollowSteps.{made_both, made_put}
use Rattle.tlv_walk.proofs.FollowerLemmas.Enough.{comes_to, ends_without}
use Rattle.tlv_io.proofs.Pieces.{pieces_so_far_more, pieces_all, together_more}
use Rattle.tlv_io.proofs.Sends.{sends_as, sends_ok, sends_then, sends_then-sent}
use Rattle.tlv_walk.proofs.FollowerLemmas.Pauses.{stands_spelled, stands_yielded}
use Rattle.tlv_walk.proofs.FollowerLemmas.WalkSoFar.{Walking, gave_last, gave_none, given_octets, given_short, made}
use Rattle.tlv_walk.proofs.FollowerLemmas.WalkSoFar.{sends, yielded}
use Rattle.tlv_walk.proofs.FollowerLemmas.TurnResults.{Turned, WalkEnds, ends_at_enough, ends_at_fault}
use Rattle.tlv_walk.proofs.FollowerLemmas.TurnResults.{ends_at_input_end, turned-by}
use Rattle.tlv_walk.proofs.FollowerLemmas.MadeAll.{MadeAll, PieceLaws, alike, enough_enters, enough_octets, made_all}
use Rattle.tlv_walk.proofs.FollowerLemmas.MadeAll.{made_enough}

module _ {S : Type 0} (next : S → EventValue → Effect S) (framing : Framing) (limit : ℕ) (s : S) (old : SourceState)
    (from : DrainState) (now : TurnStates S) (x : Walking next framing s old from now) where
  abbrev b : List ℕ
  b = concat x.gathered.pieces

  abbrev walked : HasWalked next (turn_states (new_walker framing) s old from) now b []
  walked = x.walked

  abbrev before : List EventValue
  before = yielded next framing s old from now x

  framing_is : now.walker.framing ≡ framing
  framing_is = walked.follows.framing

  followed_before : FollowsEvents next s now.follower before go.On
  followed_before = made next framing s old from now x

  abbrev sent_so_far : Sends {T = ⊤} {E = DeviceFault} from now.devices.drain (effect_of next s before).put (Ok tt)
  sent_so_far = sends next framing s old from now x

  first_reading : IsReading framing b walked.stands.has_events.reading
  first_reading =
      subst (λ (g : Framing). IsReading g b walked.stands.has_events.reading) framing_is walked.stands.has_events.is_reading

  first_spelled : spelling walked.stands.has_events.reading ≡ b
  first_spelled =
      stands_spelled now.walker b before walked.stands.has_events.reading walked.stands walked.stands.has_events.is_reading

  module _ (new : TurnStates S) (piece : List ℕ) (result : Result Turn DeviceFault)
      (read : FollowsOneRead next now new limit piece result)
      (room : length piece ≡ 4096) (below : now.walker.offset ≤ limit) where
    abbrev r : List ℕ
    r = last_octets new.devices.source.last piece

    short : length r ≤ 4096
    short = given_short new.devices.source.last piece 4096 (omega (arith, room))

    within : length b ≤ limit
    within = omega (arith, walked.stands.private_state.has_zipper.offset, below)

    all_octets : AreOctets (b ++ r)
    all_octets = All-append (λ x. x < 256) b r x.are_octets (given_octets new.devices.source.last piece read.are_octets)

    -- the octets that were walked over
    abbrev walked_octets : List ℕ
    walked_octets = take limit (b ++ r)

    turned : (answer : Result Turn DeviceFault) → result ≡ answer → Turned next now new limit b before r answer
    turned answer is =
        subst (λ (k : Result Turn DeviceFault). Turned next now new limit b before r k) is
        (turned-by next now new limit b before r result (read.turned b before walked.stands))

    gave_so : (answer : Result Turn DeviceFault) → result ≡ answer
        → LastReadWas (length piece) answer new.devices.source.last
    gave_so answer is =
        subst (λ (k : Result Turn DeviceFault). LastReadWas (length piece) k new.devices.source.last) is
        read.calls.last

    failed_so : (answer : Result Turn DeviceFault) → result ≡ answer
        → new.devices.source.failures ≡ failures_after (source_result answer) old.failures
    failed_so answer is =
        read.calls.failed_reads
        ∙ ap (λ (k : Result Turn DeviceFault). failures_after (source_result k) now.devices.source.failures) is
        ∙ ap (failures_after (source_result answer)) x.failures

    -- what was sent before and in this turn
    sent : (more : List EventValue) (result : Result ⊤ DeviceFault)
        → Sends now.devices.drain new.devices.drain (effect_of next now.follower more).put result
        → Sends from new.devices.drain (effect_of next s (before ++ more)).put result
    sent more result k =
        subst (λ (l : List ℕ). Sends from new.devices.drain l result)
        (made_put next s now.follower before more followed_before)
        (sends_then from now.devices.drain new.devices.drain (effect_of next s before).put
        (effect_of next now.follower more).put tt result sent_so_far k)

    -- all events that were followed, and what was sent of them
    followed : (all : List EventValue) (goes : Go) → FollowsMore next now new before all goes
        → FollowsEvents next s new.follower all goes
    followed all goes k =
        subst (λ (es : List EventValue). FollowsEvents next s new.follower es goes) k.all_is
        (made_both next s now.follower new.follower before k.more goes followed_before k.made)

    sent_all : (all : List EventValue) (goes : Go) → FollowsMore next now new before all goes
        → Sends {T = ⊤} {E = DeviceFault} from new.devices.drain (effect_of next s all).put (Ok tt)
    sent_all all goes k =
        subst
        (λ (es : List EventValue). Sends {T = ⊤} {E = DeviceFault} from new.devices.drain
        (effect_of next s es).put (Ok tt))
        k.all_is (sent k.more (Ok tt) k.put)

    some_octets : (o : List ℕ) → o ≢ [] → 0 < length o
    some_octets [] n = absurd (n refl)
    some_octets (z ∷ o) n = omega arith

    -- the walk goes on
    pub walking_on : result ≡ Ok Again → Walking next framing s old from new
    walking_on is =
        let y = turned (Ok Again) is in
        let all : List EventValue = y.walked.all in record {
          gathered =
              pieces_so_far_more old now.devices.source new.devices.source x.gathered r read.calls.octets
              read.calls.reads (some_octets r y.some, short);
          are_octets = subst AreOctets (sym (together_more x.gathered.pieces r)) all_octets;
          failures = failed_so (Ok Again) is;
          walked = record {
            all = all;
            follows = record {
              more = all;
              all_is = refl;
              made = followed all go.On y.walked.follows;
              put = sent_all all go.On y.walked.follows;
              framing = y.walked.follows.framing ∙ framing_is;
            };
            stands =
                subst (λ (o : List ℕ). Stands new.walker o all) (sym (together_more x.gathered.pieces r))
                y.walked.stands;
            idle = y.walked.idle;
          };
        }

    -- ---- the walk has ended

    module _ (laws : PieceLaws next) where
      first_made : MadeAll next s now.follower walked.stands.has_events.reading go.On (effect_of next s before).put
      first_made =
          made_all next laws s now.follower before walked.stands.has_events.reading go.On followed_before
          (stands_yielded now.walker b before walked.stands.has_events.reading walked.stands walked.idle
          walked.stands.has_events.is_reading)

      -- the octets so far hold neither a fault nor enough
      abbrev first_wants : WantMore (drive_job next framing s) b
      first_wants = (walked.stands.has_events.reading, (first_reading, first_spelled), ap had_enough first_made.wants)

      abbrev Driven : Result Run DeviceFault → Type 0
      Driven answer =
          Drives next framing limit (drive_states s old from)
          (drive_states new.follower new.devices.source new.devices.drain) answer

      runs_by : (answer : Result Run DeviceFault) (f : Forest) → GaveLast new.devices.source.last r
          → IsReading framing walked_octets f → (es : List EventValue)
          → (goes : Go) (k : MadeAll next s new.follower f goes (effect_of next s es).put)
          → source_result answer ≡ source_result result
          → Sends from new.devices.drain (effect_of next s es).put (drain_result answer)
          → ComesTo (drive_job next framing s) limit (b ++ r) f new.devices.source answer
          → (answer ≡ Err WriteFailed → ⊥)
          → RunsUpTo (drive_job next framing s) limit (device_states old from) new.devices answer
      runs_by answer f last is_reading es goes k same sends comes written = record {
        pieces =
            pieces_all old now.devices.source new.devices.source x.gathered r read.calls.octets read.calls.reads last
            short;
        failures =
            read.calls.failed_reads
            ∙ ap (λ (k : Result ⊤ DeviceFault). failures_after k now.devices.source.failures) (sym same)
            ∙ ap (failures_after (source_result answer)) x.failures;
        wants_more = first_wants;
        within = within;
        reading = f;
        is_reading = is_reading;
        sends = subst (λ (l : List ℕ). Sends from new.devices.drain l (drain_result answer)) k.text_is sends;
        sent_before = λ failed. absurd (written failed);
        comes = comes;
      }

      is_enough_so : (f : Forest) (goes : Go) (text : List ℕ) → MadeAll next s new.follower f goes text
          → had_enough (effect_of next s (events f)).goes ≡ had_enough goes
      is_enough_so f goes text k = ap had_enough k.wants

      -- the run, by whether there was enough
      abbrev result_if : Forest → Ending → Bool → Run
      result_if f e enough =
          if enough then enough_run framing (followed_events next s (events f)) else run_over framing f e

      -- with a fault or the end of the input
      ends_at : (run : Run) → result ≡ Ok (Ended run) → EndsIn next now new walked_octets before run
          → IsFinalEnding run.ending ⊎ ((new.devices.source.last ≡ gave 0) × IsAtEnd new.devices.source.left)
          → Driven (Ok run)
      unfolding runs_by
      ends_at run is y ended =
          let g : LastReadGaveUpTo (length piece) new.devices.source.last = gave_so (Ok (Ended run)) is in
          let es : List EventValue = y.all in
          let f : Forest = y.has_events.reading in
          let is_reading : IsReading framing walked_octets f =
          subst (λ (k : Framing). IsReading k walked_octets f) framing_is y.has_events.is_reading in
          let made : FollowsEvents next s new.follower es go.On = followed es go.On y.follows in
          let k : MadeAll next s new.follower f go.On (effect_of next s es).put =
          made_all next laws s new.follower es f go.On made y.has_events.all_events in
          let answer : run ≡ (drive_job next framing s).returns f run.ending =
          y.run_is ∙ ap (λ (k : Framing). run_over k f run.ending) framing_is
          ∙ ap (result_if f run.ending) (sym (is_enough_so f go.On (effect_of next s es).put k)) in
          let ends : EndsWith (drive_job next framing s) walked_octets f run.ending =
          ends_without (drive_job next framing s) walked_octets f run.ending
          (is_enough_so f go.On (effect_of next s es).put k)
          (subst (λ (k : Framing). IsEnding k walked_octets run.ending) framing_is y.is_ending) in record {
            runs =
                runs_by (Ok run) f (gave_last new.devices.source.last piece g) is_reading es go.On k
                (ap source_result (sym is)) (sent_all es go.On y.follows)
                (comes_to (drive_job next framing s) limit (b ++ r) f new.devices.source (Ok run) (
                  run.ending,
                  answer,
                  ends,
                  inr ended,
                ))
                (λ failed. absurd (cc (failed)));
            state = k.state;
          }

      -- with enough
      ends_with : (run : Run) → result ≡ Ok (Ended run) → HasEnoughIn next now new walked_octets before run
          → Driven (Ok run)
      unfolding runs_by
      ends_with run is y =
          let g : LastReadGaveUpTo (length piece) new.devices.source.last = gave_so (Ok (Ended run)) is in
          let es : List EventValue = y.all in
          let f : Forest = y.has_events.reading in
          let is_reading : IsReading framing walked_octets f =
          subst (λ (k : Framing). IsReading k walked_octets f) framing_is y.has_events.is_reading in
          let others : (others : List EventValue) × AreEqualJoined (es ++ others) (events f) =
          (y.others, y.has_events.all_events) in
          let made : FollowsEvents next s new.follower es go.Enough = followed es go.Enough y.follows in
          let k : MadeAll next s new.follower f go.Enough (effect_of next s es).put =
          made_enough next laws s new.follower es others.0 f made others.1 in
          let ending_is : run.ending ≡ Done = ap (λ (k : Run). k.ending) y.run_is in
          let enough : had_enough (effect_of next s (events f)).goes ≡ true =
          is_enough_so f go.Enough (effect_of next s es).put k in
          let answer : run ≡ (drive_job next framing s).returns f run.ending =
          y.run_is ∙ ap (λ (k : Framing). enough_run k es) framing_is
          ∙ ap₂ (λ (n : ℕ) (u : Option ℕ). record (enough_run framing es) { octets = n; unused = u })
          (ap length (enough_octets next laws s new.follower es others.0 f made others.1))
          (ap (first_not_among framing.inside) (enough_enters next laws s new.follower es others.0 f made others.1))
          ∙ ap (result_if f run.ending) (sym enough) in record {
            runs =
                runs_by (Ok run) f (gave_last new.devices.source.last piece g) is_reading es go.Enough k
                (ap source_result (sym is)) (sent_all es go.Enough y.follows)
                (comes_to (drive_job next framing s) limit (b ++ r) f new.devices.source (Ok run) (
                  run.ending,
                  answer,
                  subst (EndsWith (drive_job next framing s) walked_octets f) (sym ending_is) (with_enough enough),
                  inl enough,
                ))
                (λ failed. absurd (cc (failed)));
            state = k.state;
          }

      -- by why it ends
      ends_so_far : (run : Run) → result ≡ Ok (Ended run) → WalkEnds next now new limit b before r run
          → Driven (Ok run)
      ends_so_far run is (ends_at_enough y) = ends_with run is y
      ends_so_far run is (ends_at_fault y final) = ends_at run is y (inl final)
      ends_so_far run is (ends_at_input_end y none) =
          let last : new.devices.source.last ≡ gave 0 =
          gave_none new.devices.source.last piece (gave_so (Ok (Ended run)) is) none in
          ends_at run is y (inr (last, read.calls.at_end last))

      pub drives_ended : (run : Run) → result ≡ Ok (Ended run) → Driven (Ok run)
      drives_ended run is = ends_so_far run is (turned (Ok (Ended run)) is)

      drives_read_failed : result ≡ Err ReadFailed → Driven (Err ReadFailed)
      unfolding runs_by
      drives_read_failed is =
          let y = turned (Err ReadFailed) is in
          let last : new.devices.source.last ≡ failed = gave_so (Err ReadFailed) is in
          let none : r ≡ [] = ap (λ (l : LastReadValue). last_octets l piece) last in
          let f : Forest = walked.stands.has_events.reading in
          let all : b ≡ walked_octets =
          sym (ap (λ (o : List ℕ). take limit (b ++ o)) none ∙ ap (λ (o : List ℕ). take limit o) (append-nil b)
          ∙ take_all limit b within) in
          let k : MadeAll next s new.follower f go.On (effect_of next s before).put = record {
            state = y.same.follower ∙ first_made.state;
            wants = first_made.wants;
            text_is = first_made.text_is;
          } in
          let put : Sends from new.devices.drain (effect_of next s before).put (Ok tt) =
          sends_ok {T = ⊤} {U = ⊤} {E = DeviceFault} {F = DeviceFault} from new.devices.drain
          ((effect_of next s before).put ++ []) (effect_of next s before).put tt tt
          (sends_then from now.devices.drain new.devices.drain (effect_of next s before).put [] tt (Ok tt) sent_so_far
          y.put)
          (append-nil _) in record {
            runs =
                runs_by (Err ReadFailed) f (inr (last, none))
                (subst (λ (o : List ℕ). IsReading framing o f) all first_reading) before go.On k
                (ap source_result (sym is)) put (read_failed last) (λ failed. absurd (cc (failed)));
            state = k.state;
          }

      -- what was written before the turn is what the octets before it come to
      first_sent : (effect_of next s (events walked.stands.has_events.reading)).put ≡ sent_so_far.sent
      first_sent =
          sym first_made.text_is ∙ sym sent_so_far.prefix ∙ ap (λ (l : List ℕ). sent_so_far.sent ++ l) sent_so_far.all_sent
          ∙ append-nil sent_so_far.sent

      drives_write_failed : result ≡ Err WriteFailed → Driven (Err WriteFailed)
      drives_write_failed is =
          let y = turned (Err WriteFailed) is in
          let g : LastReadGaveUpTo (length piece) new.devices.source.last = gave_so (Err WriteFailed) is in
          let f : Forest = y.has_events.reading in
          let es : List EventValue = before ++ y.more in
          let same : effect_of next s es ≡ effect_of next s (events f) =
          alike next laws s es (events f) y.has_events.all_events in record {
            runs = record {
              pieces =
                  pieces_all old now.devices.source new.devices.source x.gathered r read.calls.octets read.calls.reads
                  (gave_last new.devices.source.last piece g) short;
              failures = failed_so (Err WriteFailed) is;
              wants_more = first_wants;
              within = within;
              reading = f;
              is_reading = subst (λ (k : Framing). IsReading k walked_octets f) framing_is y.has_events.is_reading;
              sends =
                  sends_as {T = ⊤} {E = DeviceFault} from new.devices.drain
                  ((effect_of next s before).put ++ (effect_of next now.follower y.more).put)
                  (effect_of next s (events f)).put (Err WriteFailed)
                  (sends_then from now.devices.drain new.devices.drain (effect_of next s before).put
                  (effect_of next now.follower y.more).put tt (Err WriteFailed) sent_so_far y.put)
                  (made_put next s now.follower before y.more followed_before ∙ ap (λ (k : Effect S). k.put) same);
              sent_before =
                  λ failed. (
                    y.put.sent,
                    ap (λ (l : List ℕ). l ++ y.put.sent) first_sent
                        ∙ sym (sends_then-sent from now.devices.drain new.devices.drain (effect_of next s before).put
                        (effect_of next now.follower y.more).put tt (Err WriteFailed) sent_so_far y.put),
                  );
              comes = write_failed;
            };
            state = tt;
          }

      drives_long : result ≡ Err InputTooLong → Driven (Err InputTooLong)
      unfolding runs_by
      drives_long is =
          let y = turned (Err InputTooLong) is in
          let g : LastReadGaveUpTo (length piece) new.devices.source.last = gave_so (Err InputTooLong) is in
          let z = y.walked in
          let es : List EventValue = z.all in
          let f : Forest = z.stands.has_events.reading in
          let is_reading : IsReading framing walked_octets f =
          subst (λ (k : Framing). IsReading k walked_octets f) (z.follows.framing ∙ framing_is)
          z.stands.has_events.is_reading in
          let k : MadeAll next s new.follower f go.On (effect_of next s es).put =
          made_all next laws s new.follower es f go.On (followed es go.On z.follows)
          (stands_yielded new.walker walked_octets es f z.stands z.idle z.stands.has_events.is_reading) in
          let wants : WantMore (drive_job next framing s) walked_octets = (
            f,
            (is_reading, stands_spelled new.walker walked_octets es f z.stands z.stands.has_events.is_reading),
            is_enough_so f go.On (effect_of next s es).put k,
          ) in
          record {
            runs =
                runs_by (Err InputTooLong) f (gave_last new.devices.source.last piece g) is_reading es go.On k
                (ap source_result (sym is)) (sent_all es go.On z.follows) (too_long y.beyond wants)
                (λ failed. absurd (cc (failed)));
            state = k.state;
          }

      pub drives_err : (e : DeviceFault) → result ≡ Err e → Driven (Err e)
      drives_err ReadFailed is = drives_read_failed is
      drives_err WriteFailed is = drives_write_failed is
      drives_err InputTooLong is = drives_long is
