use Rattle.std.proofs.Common.{arith}
use Rattle.numa_heaps.proofs.Opened.{opened_is, some_cpus, few_labels, few_scripts, valid_in}
use Rattle.numa_heaps.proofs.opening.open_nodes.Goals as goal

pub parts_of_nodes-requires-clause-few : goal.parts_of_nodes-requires-clause-few
parts_of_nodes-requires-clause-few c = few_scripts c.args.setting.now c.requires.config c.requires.read.1 c.as_slice-scripts.ensures

pub parts_of_nodes-requires-clause-labels : goal.parts_of_nodes-requires-clause-labels
parts_of_nodes-requires-clause-labels c k =
    let most = few_labels c.args.setting.now c.requires.config c.requires.read.1 c.args.nodes.count k in
    rw c.as_slice-scripts.ensures (omega (arith, most))

pub owners_of-requires-clause-cpus : goal.owners_of-requires-clause-cpus
owners_of-requires-clause-cpus c = some_cpus c.args.setting.now c.requires.config c.requires.read.1

pub threads_of-requires-clause-cpus : goal.threads_of-requires-clause-cpus
threads_of-requires-clause-cpus c = some_cpus c.args.setting.now c.requires.config c.requires.read.1

pub owners_of-requires-clause-few : goal.owners_of-requires-clause-few
owners_of-requires-clause-few c = few_scripts c.args.setting.now c.requires.config c.requires.read.1 c.as_slice-scripts.ensures

pub threads_of-requires-clause-few : goal.threads_of-requires-clause-few
threads_of-requires-clause-few c = few_scripts c.args.setting.now c.requires.config c.requires.read.1 c.as_slice-scripts.ensures

pub returns-clause-start : goal.returns-clause-start
returns-clause-start c =
    let scripts = c.as_slice-scripts.ensures in
    let opened = opened_is c.args.setting.now c.requires.config c.requires.read.1 c.args.nodes.count c.in_ok-parts.ensures.table in
    rw (c.in_ok-parts.ensures.parts, c.in_ok-locals.ensures, c.deref.ensures.value, c.in_ok-owners.ensures, scripts) opened

pub returns-clause-valid : goal.returns-clause-valid
returns-clause-valid c = valid_in c.args.setting.now c.requires.config c.requires.read.1 c.in_ok-parts.ensures.table
