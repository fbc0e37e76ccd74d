-- `text::put_byte` meets its contract.
use Rattle.text.proofs.TextPutting.{put_one}
use Rattle.text.proofs.put_byte.Goals as goal

pub returns : goal.returns
returns c = put_one c.args.out.now c.args.at c.args.byte c.requires
