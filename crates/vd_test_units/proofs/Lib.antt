mod ThreeHosts
