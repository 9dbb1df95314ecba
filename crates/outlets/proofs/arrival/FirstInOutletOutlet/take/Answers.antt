use Rattle.outlets.specs.Arrival.{messages, places}
use Rattle.outlets.proofs.Listed.{take_first}
use Rattle.outlets.proofs.arrival.FirstInOutletOutlet.take.Goals as goal

pub returns : goal.returns
returns c =
    let e = c.pop.ensures in
    record {
      step = take_first messages places c.args.self.now c.pop.new.self c.pop.result e.answer e.messages e.capacity;
      answer = e.answer;
      messages = e.messages;
    }
